-- The laws of corners and touching that need points alone, each once over the level k. They are what the crates above cite.
-- Assumes nothing.
use Prim.Native.Nat.{ℕ, zero, suc, ◌+◌, ◌*◌, ◌-◌, ◌/◌, ◌%◌, ◌^◌, ◌≤◌, ◌<◌}
use mathlib.Core.Path.{◌≡◌, refl, sym, ap, ◌∙◌}
use mathlib.Core.Bool.{Bool, true, false, cond}
use mathlib.Core.List.{[], ◌∷◌}
use native.Mathlib.Omega.{arith}
use borrow.Author.Tests.{leb-true, le-leb}
use lib.Dec.{leb}
use lib.IntN.{ℤ, pos, nat_abs}
use lib.ListN.{length, get_or}
use Rattle.refusal.proofs.Tests.{same_test}
use Rattle.cell.specs.Cell.{Triangle, up, down, span, Place, place, Occurs}
use Rattle.corner.specs.Corner.{Point, coordinate, norm, minus, quarters, equatorial, polar, point_in, corner, triangle_corners, corners, touches}
use Rattle.corner.proofs.Octants.{octant-cases}
use Rattle.corner.proofs.Common.{index_cases, three, eqb_mutual, common_symmetric, Points}

-- ---- touching is mutual

pub touches_symmetric : (k m n : ℕ) → touches k m n ≡ touches k n m
unfolding touches
touches_symmetric k m n = rw (eqb_mutual m n, common_symmetric (corners k (place k m)) (corners k (place k n)))

-- ---- the octants' edges

same_either_way : {A : Type 0} (b : Bool) (x : A) → cond b x x ≡ x
same_either_way true x = refl
same_either_way false x = refl

-- the points of the equator, with T = 0, are the same in both hemispheres
pub equator : (o o' l r : ℕ) → o % 4 ≡ o' % 4 → point_in o l r 0 ≡ point_in o' l r 0
unfolding point_in equatorial polar
equator o o' l r e = simp (e, same_either_way)

-- the points of an octant's east edge, with L = 0, are those of the west edge, with R = 0, of the octant to the east in the same hemisphere
pub meridian : (o o' r t : ℕ) → o / 4 ≡ o' / 4 → o' % 4 ≡ (o % 4 + 1) % 4 → point_in o 0 r t ≡ point_in o' r 0 t
unfolding point_in equatorial polar
meridian o o' r t h e =
    three (ap (λ (q : ℤ × ℤ). q.0) pairs) (ap (λ (q : ℤ × ℤ). q.1) pairs) (ap (λ (b : Bool). cond b (minus t) (pos t)) south)
  where
    south : leb 4 o ≡ leb 4 o'
    south =
        same_test (leb 4 o) (leb 4 o')
        (λ s. let z = leb-true 4 o s in le-leb 4 o' (omega arith))
        (λ s. let z = leb-true 4 o' s in le-leb 4 o (omega arith))

    there : ℕ → ℤ × ℤ
    there i = get_or (quarters pos minus r 0) ((i + 1) % 4) (pos r, pos 0)

    pairs : equatorial pos minus o 0 r ≡ equatorial pos minus o' r 0
    pairs = rw e (octant-cases pos minus 0 r (λ i q. q ≡ there i) refl refl refl refl o)

-- ---- points

pub size_minus : (n : ℕ) → nat_abs (minus n) ≡ n
size_minus zero = refl
size_minus (suc n) = refl

-- R by the quarter and the two numbers
r_at : ℕ → ℤ × ℤ → ℕ
r_at i q = get_or (nat_abs q.1 ∷ nat_abs q.0 ∷ nat_abs q.1 ∷ nat_abs q.0 ∷ []) i 0

-- the sizes of the two numbers are L and R
record PairSizes (l r i : ℕ) (q : ℤ × ℤ) : Type 0 where
  total : nat_abs q.0 + nat_abs q.1 ≡ l + r
  tells : r_at i q ≡ r

pair_sizes : (o l r : ℕ) → PairSizes l r (o % 4) (equatorial pos minus o l r)
unfolding r_at
pair_sizes o l r = octant-cases pos minus l r (PairSizes l r)
    (record { total = refl; tells = refl })
    (record { total = rw size_minus (omega arith); tells = size_minus r })
    (record { total = rw (size_minus l, size_minus r); tells = size_minus r })
    (record { total = rw size_minus (omega arith); tells = refl })
    o

-- the third number has the size T
size_polar : (o t : ℕ) → nat_abs (polar o t) ≡ t
unfolding polar
size_polar o t = go (leb 4 o)
  where
    go : (b : Bool) → nat_abs (cond b (minus t) (pos t)) ≡ t
    go true = size_minus t
    go false = refl

pub point_norm : (o l r t : ℕ) → norm (point_in o l r t) ≡ l + r + t
unfolding norm point_in
point_norm o l r t = omega (arith, (pair_sizes o l r).total, size_polar o t)

-- a point of an octant tells R and T
point_told : (o l r t l' r' t' : ℕ) → point_in o l r t ≡ point_in o l' r' t' → (r ≡ r') × (t ≡ t')
unfolding point_in
point_told o l r t l' r' t' e =
    let x = ap (λ (p : Point). coordinate p 0) e in
    let y = ap (λ (p : Point). coordinate p 1) e in
    let z : polar o t ≡ polar o t' = ap (λ (p : Point). coordinate p 2) e in
    let q : equatorial pos minus o l r ≡ equatorial pos minus o l' r' = λ i. (x i, y i) in
    (sym (pair_sizes o l r).tells ∙ ap (r_at (o % 4)) q ∙ (pair_sizes o l' r').tells, sym (size_polar o t) ∙ ap nat_abs z ∙ size_polar o t')

-- ---- the three corners of a cell

-- they are points, three numbers each
corner_points : (k o : ℕ) (f : Triangle) → Points (triangle_corners k o f)
unfolding triangle_corners corner point_in
corner_points k o (up a b) = λ i d h. index_cases (λ i. length (get_or (triangle_corners k o (up a b)) i d) ≡ 3) refl refl refl i h
corner_points k o (down a b) = λ i d h. index_cases (λ i. length (get_or (triangle_corners k o (down a b)) i d) ≡ 3) refl refl refl i h

pub points_corners : (k : ℕ) (p : Place) → Points (corners k p)
points_corners k p = corner_points k p.0 p.1

-- T and R of corner i: they lie in the octant, and tell i
record Numbered (k o : ℕ) (f : Triangle) (x : Point) (n : ℕ) : Type 0 where
  t : ℕ
  r : ℕ
  is : x ≡ corner k o t r
  inside : t + r ≤ span f
  tells : t + 2 * r ≡ n

-- t + 2 r of the first corner
first : Triangle → ℕ
first (up a b) = a + 2 * b
first (down a b) = a + 2 * b + 1

number_corner : (k o : ℕ) (f : Triangle) (i : ℕ) → i < 3 → Numbered k o f (get_or (triangle_corners k o f) i []) (first f + i)
unfolding triangle_corners first span
number_corner k o (up a b) = index_cases _
    (record { t = a; r = b; is = refl; inside = omega arith; tells = omega arith })
    (record { t = a + 1; r = b; is = refl; inside = omega arith; tells = omega arith })
    (record { t = a; r = b + 1; is = refl; inside = omega arith; tells = omega arith })
number_corner k o (down a b) = index_cases _
    (record { t = a + 1; r = b; is = refl; inside = omega arith; tells = omega arith })
    (record { t = a; r = b + 1; is = refl; inside = omega arith; tells = omega arith })
    (record { t = a + 1; r = b + 1; is = refl; inside = omega arith; tells = omega arith })

-- they are different points
pub corners_apart : (k : ℕ) (p : Place) (i j : ℕ) → i < 3 → j < 3 → get_or (corners k p) i [] ≡ get_or (corners k p) j [] → i ≡ j
unfolding corner
corners_apart k p i j hi hj e =
    let m = number_corner k p.0 p.1 i hi in
    let n = number_corner k p.0 p.1 j hj in
    let s = point_told p.0 _ m.r m.t _ n.r n.t (sym m.is ∙ e ∙ n.is) in
    omega (arith, m.tells, n.tells, s)

-- the sizes of a corner's three numbers are L, R and T: together N
pub corner_norm : (k : ℕ) (p : Place) → Occurs k p → (i : ℕ) → i < 3 → norm (get_or (corners k p) i []) ≡ 2 ^ k
unfolding corner
corner_norm k p h i l =
    let n = number_corner k p.0 p.1 i l in
    ap norm n.is ∙ point_norm p.0 (2 ^ k - n.t - n.r) n.r n.t ∙ omega (arith, n.inside, h.1)
