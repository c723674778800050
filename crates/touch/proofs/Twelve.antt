-- Cells away from their octant's edges: the twelve ways are exactly those that lead to touching cells, and the octant stays. Assumes nothing.
use Prim.Native.Nat.{ℕ, zero, suc, ◌+◌, ◌-◌, ◌/◌, ◌%◌, ◌^◌, ◌≤◌, ◌<◌}
use mathlib.Core.Path.{◌≡◌, refl, sym, ap, ap₂, ◌∙◌}
use mathlib.Core.Bool.{Bool, true, false, ◌&&◌, ◌||◌, not, cond}
use mathlib.Core.Logic.{◌⊎◌, inl, inr, ⊎_elim}
use mathlib.Core.Option.{some}
use native.Mathlib.Omega.{arith}
use borrow.Author.Tests.{leb-true, ltb-true, eqb-true, eqb-false}
use lib.Dec.{eqb, leb, ltb}
use lib.ListN.{get_or}
use lib.Pow.{pow_mono}
use Rattle.refusal.proofs.Tests.{parts, cases}
use Rattle.cell.specs.declared.Kind.{Kind}
use Rattle.cell.specs.declared.Kind.TheVariants.{Up, Down}
use Rattle.cell.specs.Cell.{Triangle, Place, Occurs, span, row, col, triangle_of, number, max_level}
use Rattle.cell.proofs.Laws.{digit_cases}
use Rattle.corner.specs.Corner.{quarters, equatorial, side_of}
use Rattle.corner.specs.declared.Side.{Side}
use Rattle.adjacency.specs.declared.Cube.{Cube}
use Rattle.corner.proofs.Octants.{octant-cases}
use Rattle.adjacency.specs.Cube.{sum, left_over, equatorial_sides, cube_of, inward, moved, moved_cube, least, most, taken, sums_fit, touching_way, place_of_cube, cell_along}
use Rattle.touch.specs.inside.Inner.{is_inner, inner_ways, inner_way, other, stepped}
use Rattle.adjacency.proofs.Cubes.{room, room_small, span_is, sum_cube, place_cube, row_of, col_of}
use Rattle.touch.proofs.Steps.{all, all_at, five}
use Rattle.adjacency.proofs.Ways.{three_ways, AxesOf, axes, a_cell}

-- ---- the twelve ways along the axes of the octants: in every other octant L and the column change places

crossed : ℕ → ℕ
crossed w = three_ways (w / 3 % 3) (w % 3) (w / 9)

seen : Bool → ℕ → ℕ
seen false w = w
seen true w = crossed w

-- the way to touching cell i
pub way_of : Kind → Bool → ℕ → ℕ
way_of t b i = seen b (inner_way t i)

-- ---- computed tests

-- the last place below n at which a function has the value v
place_in12 : (ℕ → ℕ) → ℕ → ℕ → ℕ
place_in12 f v zero = 12
place_in12 f v (suc j) = cond (eqb (f j) v) j (place_in12 f v j)

pub index_of : Kind → Bool → ℕ → ℕ
index_of t b v = place_in12 (way_of t b) v 12

-- N less the bases, by kind; and the sum of the steps that changes the kind
abbrev kind_room : Kind → ℕ
kind_room Up = 1
kind_room Down = 2

abbrev turning : Kind → ℕ
turning Up = 2
turning Down = 4

steps : ℕ → ℕ
steps w = w % 3 + w / 3 % 3 + w / 9

-- what is to hold of touching cell i of the twelve, and of way v of the 27
leads : Kind → Bool → Cube → ℕ → Bool
leads t b c i =
    ltb (inner_way t i) 27
    && ltb (way_of t b i) 27
    && touching_way (kind_room t) c (way_of t b i)
    && eqb (index_of t b (way_of t b i)) i
    && (eqb (steps (inner_way t i)) 3 || eqb (steps (inner_way t i)) (turning t))

listed : Kind → Bool → Cube → ℕ → Bool
listed t b c v = not (touching_way (kind_room t) c v) || (ltb (index_of t b v) 12 && eqb (way_of t b (index_of t b v)) v)

both_tests : Kind → Bool → Cube → Bool
both_tests t b c = all (leads t b c) 12 && all (listed t b c) 27

cube_with : Bool → Bool → Bool → ℕ → ℕ → ℕ → Cube
cube_with nx ny nz x y z = record { x = side_of nx x; y = side_of ny y; z = side_of nz z }

tested : (t : Kind) (b nx ny nz : Bool) (x y z : ℕ) → both_tests t b (cube_with nx ny nz (suc x) (suc y) (suc z)) ≡ true
unfolding both_tests cube_with all leads listed steps index_of place_in12 way_of seen crossed three_ways inner_way inner_ways touching_way sums_fit least most taken
tested Up false nx ny nz x y z = refl
tested Up true nx ny nz x y z = refl
tested Down false nx ny nz x y z = refl
tested Down true nx ny nz x y z = refl

-- so of every cube that has no base 0
passed : (t : Kind) (b : Bool) (c : Cube) → 1 ≤ c.x.base → 1 ≤ c.y.base → 1 ≤ c.z.base → both_tests t b c ≡ true
unfolding cube_with
passed t b c = go c.x.base c.y.base c.z.base
  where
    go : (x y z : ℕ) → 1 ≤ x → 1 ≤ y → 1 ≤ z → both_tests t b (cube_with c.x.negative c.y.negative c.z.negative x y z) ≡ true
    go zero y z hx hy hz = absurd (omega arith)
    go (suc x) zero z hx hy hz = absurd (omega arith)
    go (suc x) (suc y) zero hx hy hz = absurd (omega arith)
    go (suc x) (suc y) (suc z) hx hy hz = tested t b c.x.negative c.y.negative c.z.negative x y z

-- ---- one way on from a place

-- a side whose base is not 0 keeps its sign
moved_base : (n : Bool) (b a : ℕ) → 1 ≤ b → a ≤ 2 → moved a (side_of n b) ≡ side_of n (b + a - 1)
unfolding moved inward
moved_base n zero a h l = absurd (omega arith)
moved_base n (suc b) zero h l = ap (side_of n) (omega arith)
moved_base n (suc b) (suc zero) h l = ap (side_of n) (omega arith)
moved_base n (suc b) (suc (suc a)) h l = ap (side_of n) (omega arith)

-- whether L and the column change places in an octant
pub odd : ℕ → Bool
odd i = eqb (i % 2) 1

crossing : (w : ℕ) → w < 27 → AxesOf (w / 3 % 3) (w % 3) (w / 9)
crossing w h = axes (w / 3 % 3) (w % 3) (w / 9) (omega arith) (omega arith) (omega arith)

seen_z : (b : Bool) (w : ℕ) → w < 27 → seen b w / 9 ≡ w / 9
unfolding seen crossed
seen_z false w h = refl
seen_z true w h = (crossing w h).z

module _ (l r w : ℕ) (hl : 1 ≤ l) (hr : 1 ≤ r) (hw : w < 27) where
  Turned : ℕ → Side × Side → Side × Side → Type 0
  Turned i s u = (moved (seen (odd i) w % 3) s.0 ≡ u.0) × (moved (seen (odd i) w / 3 % 3) s.1 ≡ u.1)

  to_l : (n : Bool) → moved (w % 3) (side_of n l) ≡ side_of n (l + w % 3 - 1)
  to_l n = moved_base n l (w % 3) hl (omega arith)

  to_r : (n : Bool) → moved (w / 3 % 3) (side_of n r) ≡ side_of n (r + w / 3 % 3 - 1)
  to_r n = moved_base n r (w / 3 % 3) hr (omega arith)

  sides_moved : (o : ℕ) → Turned (o % 4) (equatorial (side_of false) (side_of true) o l r) (equatorial (side_of false) (side_of true) o (l + w % 3 - 1) (r + w / 3 % 3 - 1))
  unfolding Turned equatorial odd seen crossed
  sides_moved o =
      let q = crossing w hw in
      digit_cases (λ (i : ℕ). Turned i (get_or (quarters (side_of false) (side_of true) l r) i (side_of false l, side_of false r))
      (get_or (quarters (side_of false) (side_of true) (l + w % 3 - 1) (r + w / 3 % 3 - 1)) i (side_of false (l + w % 3 - 1), side_of false (r + w / 3 % 3 - 1))))
      (to_l false, to_r false)
      (rw q.x (to_r true), rw q.y (to_l false))
      (to_l true, to_r true)
      (rw q.x (to_r false), rw q.y (to_l true))
      (o % 4) (omega arith)

-- what a way of the right sum makes of a triangle that lies away from the edges
record Stepped (t : Kind) (a b w : ℕ) (f : Triangle) : Type 0 where
  rows : row f ≡ a + w / 9 - 1
  cols : col f ≡ b + w / 3 % 3 - 1
  spans : span f + w % 3 ≡ span (triangle_of t a b) + 1

stepped-laws :
    (t : Kind) (a b w : ℕ) → 1 ≤ a → 1 ≤ b → (steps w ≡ 3) ⊎ (steps w ≡ turning t) → Stepped t a b w (stepped w t a b)
unfolding stepped row col span steps
stepped-laws t a b w ha hb s = go t s (eqb (w % 3 + w / 3 % 3 + w / 9) 3) refl
  where
    go :
        (t : Kind) → (steps w ≡ 3) ⊎ (steps w ≡ turning t) → (e : Bool) → eqb (w % 3 + w / 3 % 3 + w / 9) 3 ≡ e
        → Stepped t a b w (triangle_of (cond e t (other t)) (a + w / 9 - 1) (b + w / 3 % 3 - 1))
    go Up s true e = record { rows = refl; cols = refl; spans = omega (arith, eqb-true (w % 3 + w / 3 % 3 + w / 9) 3 e) }
    go Down s true e = record { rows = refl; cols = refl; spans = omega (arith, eqb-true (w % 3 + w / 3 % 3 + w / 9) 3 e) }
    go Up (inl d) false e = absurd (eqb-false (w % 3 + w / 3 % 3 + w / 9) 3 e d)
    go Down (inl d) false e = absurd (eqb-false (w % 3 + w / 3 % 3 + w / 9) 3 e d)
    go Up (inr d) false e = record { rows = refl; cols = refl; spans = omega arith }
    go Down (inr d) false e = record { rows = refl; cols = refl; spans = omega arith }

-- ---- a cell away from the edges

room_kind : (t : Kind) (a b : ℕ) → room (triangle_of t a b) ≡ kind_room t
unfolding room
room_kind Up a b = refl
room_kind Down a b = refl

-- the test by the code's row and column, and their bound
pub inner_is : (k : ℕ) (t : Kind) (a b : ℕ) → is_inner k (triangle_of t a b) ≡ (ltb 0 a && ltb 0 b && leb (a + b + 3) (2 ^ k))
unfolding is_inner row col
inner_is k Up a b = refl
inner_is k Down a b = refl

pub sides_small : (k : ℕ) (t : Kind) (a b : ℕ) → k ≤ max_level → span (triangle_of t a b) ≤ 2 ^ k → a + b ≤ 2 ^ max_level
sides_small k t a b h l = omega (arith, span_is (triangle_of t a b), row_of t a b, col_of t a b, pow_mono {i = k} {j = max_level} h)

pub record Inner (k : ℕ) (f : Triangle) : Type 0 where
  pub rows : 1 ≤ row f
  pub cols : 1 ≤ col f
  pub lefts : 1 ≤ left_over k f

pub inner_told : (k : ℕ) (f : Triangle) → is_inner k f ≡ true → Inner k f
unfolding is_inner left_over
inner_told k f e =
    let a = parts (ltb 0 (row f) && ltb 0 (col f)) (leb (row f + col f + 3) (2 ^ k)) e in
    let b = parts (ltb 0 (row f)) (ltb 0 (col f)) a.0 in
    record {
      rows = ltb-true 0 (row f) b.0;
      cols = ltb-true 0 (col f) b.1;
      lefts = omega (arith, leb-true (row f + col f + 3) (2 ^ k) a.1, span_is f, room_small f);
    }

module _ (k o a b : ℕ) (t : Kind) (h : Occurs k (o, triangle_of t a b)) (e : is_inner k (triangle_of t a b) ≡ true) where
  inside : (1 ≤ a) × (1 ≤ b) × (1 ≤ left_over k (triangle_of t a b))
  inside =
      let i = inner_told k (triangle_of t a b) e in
      (rw (row_of t a b) at i.rows, rw (col_of t a b) at i.cols, i.lefts)

  -- row and column leave room for a step either way
  pub room_to_step : k ≤ max_level → (1 ≤ a) × (1 ≤ b) × (a < 2 ^ 31) × (b < 2 ^ 31)
  room_to_step l =
      let s = span_is (triangle_of t a b) in
      let f = pow_mono {i = k} {j = max_level} l in
      (inside.0, inside.1, omega (arith, h.1, row_of t a b), omega (arith, h.1, col_of t a b))

  -- one way on is the cube of the stepped triangle
  module _ (w : ℕ) (hw : w < 27) (s : (steps w ≡ 3) ⊎ (steps w ≡ turning t)) where
    next : Triangle
    next = stepped w t a b

    laws : Stepped t a b w next
    unfolding next
    laws = stepped-laws t a b w inside.0 inside.1 s

    left-moved : left_over k next ≡ left_over k (triangle_of t a b) + w % 3 - 1
    unfolding left_over
    left-moved = omega (arith, laws.spans, inside.2, h.1)

    next-occurs : Occurs k (o, next)
    unfolding left_over
    next-occurs = (h.0, omega (arith, laws.spans, inside.2, h.1))

    cube-moved : moved_cube (seen (odd (o % 4)) w) (cube_of k (o, triangle_of t a b)) ≡ cube_of k (o, next)
    unfolding moved_cube cube_of Turned
    cube-moved =
        let l = left_over k (triangle_of t a b) in
        let v = seen (odd (o % 4)) w in
        let q = sides_moved l b w inside.2 inside.1 hw o in
        let from = ap (equatorial_sides o l) (col_of t a b) in
        let to = ap₂ (equatorial_sides o) (sym left-moved) (sym laws.cols) in
        let x = ap (λ (s : Side × Side). moved (v % 3) s.0) from ∙ q.0 ∙ ap (λ (s : Side × Side). s.0) to in
        let y = ap (λ (s : Side × Side). moved (v / 3 % 3) s.1) from ∙ q.1 ∙ ap (λ (s : Side × Side). s.1) to in
        let z = ap₂ (λ (d r : ℕ). moved d (side_of (leb 4 o) r)) (seen_z (odd (o % 4)) w hw) (row_of t a b)
        ∙ moved_base (leb 4 o) a (w / 9) inside.0 (omega arith)
        ∙ ap (side_of (leb 4 o)) (sym laws.rows) in
        λ i. record { x = x i; y = y i; z = z i }

    place-moved : place_of_cube k (moved_cube (seen (odd (o % 4)) w) (cube_of k (o, triangle_of t a b))) ≡ (o, next)
    place-moved = ap (place_of_cube k) cube-moved ∙ place_cube k (o, next) next-occurs

  -- the cube, and whether L and the column change places
  cube : Cube
  cube = cube_of k (o, triangle_of t a b)

  turned : Bool
  turned = odd (o % 4)

  sums : sum cube + kind_room t ≡ 2 ^ k
  unfolding cube
  sums = omega (arith, sum_cube k (o, triangle_of t a b) h, room_kind t a b)

  tests : both_tests t turned cube ≡ true
  unfolding cube cube_of
  tests =
      let g = octant-cases (side_of false) (side_of true) (left_over k (triangle_of t a b)) (col (triangle_of t a b)) (λ i s. (1 ≤ s.0.base) × (1 ≤ s.1.base)) in
      let i = inner_told k (triangle_of t a b) e in
      let b = g (i.lefts, i.cols) (i.cols, i.lefts) (i.lefts, i.cols) (i.cols, i.lefts) o in
      passed t turned cube b.0 b.1 i.rows

  -- touching cell i is found along its way
  pub record Found (i : ℕ) : Type 0 where
    pub step_low : inner_way t i < 27
    pub low : way_of t (odd (o % 4)) i < 27
    pub occurs : Occurs k (o, stepped (inner_way t i) t a b)
    pub cell : cell_along k (cube_of k (o, triangle_of t a b)) (way_of t (odd (o % 4)) i) ≡ some (number k (o, stepped (inner_way t i) t a b))
    pub index : index_of t (odd (o % 4)) (way_of t (odd (o % 4)) i) ≡ i

  pub found_along : (i : ℕ) → i < 12 → Found i
  unfolding both_tests leads turned cube way_of next
  found_along i hi =
      let w = inner_way t i in
      let v = way_of t turned i in
      let z = all_at (leads t turned cube) 12 (parts (all (leads t turned cube) 12) (all (listed t turned cube) 27) tests).0 i hi in
      let steps-fit = eqb (steps w) 3 || eqb (steps w) (turning t) in
      let p = five (ltb w 27) (ltb v 27) (touching_way (kind_room t) cube v) (eqb (index_of t turned v) i) steps-fit z in
      let hw = ltb-true w 27 p.0 in
      let s : (steps w ≡ 3) ⊎ (steps w ≡ turning t)
      = ⊎_elim (λ q. inl (eqb-true (steps w) 3 q)) (λ q. inr (eqb-true (steps w) (turning t) q)) (cases (eqb (steps w) 3) (eqb (steps w) (turning t)) p.4) in
      record {
        step_low = hw;
        low = ltb-true v 27 p.1;
        occurs = next-occurs w hw s;
        cell = sym (a_cell k (kind_room t) cube sums v p.2) ∙ ap (λ (q : Place). some (number k q)) (place-moved w hw s);
        index = eqb-true (index_of t turned v) i p.3;
      }

  -- and each accepted way is that of one of the twelve
  pub way-listed :
      (v : ℕ) → v < 27 → touching_way (2 ^ k - sum (cube_of k (o, triangle_of t a b))) (cube_of k (o, triangle_of t a b)) v ≡ true
      → (i : ℕ) × (i < 12) × (way_of t (odd (o % 4)) i ≡ v)
  unfolding both_tests listed turned cube
  way-listed v hv q =
      let z = all_at (listed t turned cube) 27 (parts (all (leads t turned cube) 12) (all (listed t turned cube) 27) tests).1 v hv in
      let r : 2 ^ k - sum cube ≡ kind_room t = omega (arith, sums) in
      let i = index_of t turned v in
      let p = parts (ltb i 12) (eqb (way_of t turned i) v) (rw (rw r at q) at z) in
      (i, ltb-true i 12 p.0, eqb-true (way_of t turned i) v p.1)
