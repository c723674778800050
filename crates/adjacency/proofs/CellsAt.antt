-- The cells at a point: on each axis two sides end at a number, and the cells at a point span the cubes of such sides whose bases leave 1 or 2 of N.
-- Assumes nothing.
use Prim.Native.Nat.{ℕ, zero, suc, ◌+◌, ◌*◌, ◌-◌, ◌/◌, ◌%◌, ◌^◌, ◌≤◌, ◌<◌}
use mathlib.Core.Path.{◌≡◌, refl, sym, ap, subst, ◌∙◌}
use mathlib.Core.Bool.{Bool, true, false, cond, ◌&&◌}
use mathlib.Core.List.{[], ◌∷◌}
use mathlib.Core.Logic.{inl, inr}
use mathlib.Core.Option.{Option, none, some, some-injective, none-ne-some}
use native.Mathlib.Omega.{arith}
use borrow.Author.Tests.{le-leb, leb-true}
use lib.Dec.{leb}
use lib.IntN.{ℤ, pos, negsuc, nat_abs}
use lib.ListN.{length}
use Rattle.refusal.proofs.Tests.{parts, both, clash}
use Rattle.cell.specs.Cell.{place, number, cells}
use Rattle.cell.proofs.Laws.{place_occurs, number_below, place_number, number_place}
use Rattle.corner.specs.Corner.{norm, minus, corners, among, side_of}
use Rattle.corner.proofs.Common.{three, among_index, index_among, same_point_refl, same_coordinates}
use Rattle.corner.specs.declared.Side.{Side}
use Rattle.adjacency.specs.declared.Cube.{Cube}
use Rattle.adjacency.specs.Touch.{Tip, cells_at}
use Rattle.adjacency.specs.Cube.{sum, cube_of, place_of_cube}
use Rattle.adjacency.proofs.Sides.{end, size_end}
use Rattle.adjacency.proofs.Cubes.{room, room_small, sum_cube, place_cube, Spanned, cube_occurs, cube_place}
use Rattle.adjacency.proofs.Vertices.{vertex, IsVertex, corner_vertex, vertex-corner}
use Rattle.adjacency.proofs.Counts.{passes, passes_same}
use Rattle.adjacency.proofs.Collect.{is_found, rising_count}

-- ---- one axis: the two sides that end at a number

-- whether a number is not 0
unfoldable pub live : ℤ → Bool
live (pos zero) = false
live (pos (suc n)) = true
live (negsuc n) = true

-- how far beyond its base the first and the second of the two sides have the number
unit : Bool → ℕ → ℕ
unit true zero = 1
unit true (suc i) = 0
unit false i = 0

side_at : ℤ → ℕ → Side
side_at (pos zero) zero = side_of false 0
side_at (pos zero) (suc i) = side_of true 0
side_at (pos (suc n)) zero = side_of false n
side_at (pos (suc n)) (suc i) = side_of false (suc n)
side_at (negsuc n) zero = side_of true n
side_at (negsuc n) (suc i) = side_of true (suc n)

unit_small : (b : Bool) (i : ℕ) → unit b i ≤ 1
unfolding unit
unit_small true zero = omega arith
unit_small true (suc i) = omega arith
unit_small false i = omega arith

ends_there : (z : ℤ) (i : ℕ) → i < 2 → end (side_at z i) (unit (live z) i) ≡ z
unfolding side_at unit live
ends_there (pos zero) zero h = refl
ends_there (pos zero) (suc i) h = refl
ends_there (pos (suc n)) zero h = ap pos (omega arith)
ends_there (pos (suc n)) (suc i) h = ap pos (omega arith)
ends_there (negsuc n) zero h = let e : n + 1 ≡ suc n = omega arith in ap minus e
ends_there (negsuc n) (suc i) h = let e : suc n + 0 ≡ suc n = omega arith in ap minus e

-- each side that has an end at a number is one of the two
record EndsAt (s : Side) (z : ℤ) : Type 0 where
  index : ℕ
  low : index < 2
  is : s ≡ side_at z index

ending_at : (n : Bool) (b u : ℕ) → u ≤ 1 → EndsAt (side_of n b) (end (side_of n b) u)
unfolding side_at
ending_at false zero zero h = record { index = 0; low = omega arith; is = refl }
ending_at true zero zero h = record { index = 1; low = omega arith; is = refl }
ending_at false (suc b) zero h = let e : suc b + 0 ≡ suc b = omega arith in rw e (record { index = 1; low = omega arith; is = refl })
ending_at true (suc b) zero h = let e : suc b + 0 ≡ suc b = omega arith in rw e (record { index = 1; low = omega arith; is = refl })
ending_at false b (suc u) h = let e : b + suc u ≡ suc b = omega arith in rw e (record { index = 0; low = omega arith; is = refl })
ending_at true b (suc u) h = let e : b + suc u ≡ suc b = omega arith in rw e (record { index = 0; low = omega arith; is = refl })

ending : (s : Side) (u : ℕ) (z : ℤ) → u ≤ 1 → z ≡ end s u → EndsAt s z
ending s u z h e = subst (EndsAt s) (sym e) (ending_at s.negative s.base u h)

-- which of the two a side is
told : ℤ → Side → ℕ
told (pos zero) s = cond s.negative 1 0
told (pos (suc n)) s = s.base - n
told (negsuc n) s = s.base - n

told_at : (z : ℤ) (i : ℕ) → i < 2 → told z (side_at z i) ≡ i
unfolding told side_at
told_at (pos zero) zero h = refl
told_at (pos zero) (suc i) h = omega arith
told_at (pos (suc n)) zero h = omega arith
told_at (pos (suc n)) (suc i) h = omega arith
told_at (negsuc n) zero h = omega arith
told_at (negsuc n) (suc i) h = omega arith

sides_told : (z : ℤ) (i j : ℕ) → i < 2 → j < 2 → side_at z i ≡ side_at z j → i ≡ j
sides_told z i j hi hj e = sym (told_at z i hi) ∙ ap (told z) e ∙ told_at z j hj

-- ---- the eight cubes of such sides

-- what the point lies beyond the bases of cube j: together 1 or 2 where a cell spans it
beyond : Bool → Bool → Bool → ℕ → ℕ
beyond p q r j = unit p (j % 2) + unit q (j / 2 % 2) + unit r (j / 4)

spans : Bool → Bool → Bool → ℕ → Bool
spans p q r j = leb 1 (beyond p q r j) && leb (beyond p q r j) 2

-- how many of them are spanned: where two of the numbers are 0, four
unfoldable pub point_cells : Bool → Bool → Bool → ℕ
point_cells false false false = 0
point_cells false false true = 4
point_cells false true false = 4
point_cells true false false = 4
point_cells false true true = 6
point_cells true false true = 6
point_cells true true false = 6
point_cells true true true = 6

spanned_count : (p q r : Bool) → passes (spans p q r) 8 ≡ point_cells p q r
unfolding passes spans beyond unit point_cells
spanned_count false false false = refl
spanned_count false false true = refl
spanned_count false true false = refl
spanned_count true false false = refl
spanned_count false true true = refl
spanned_count true false true = refl
spanned_count true true false = refl
spanned_count true true true = refl

-- three indices as one number
record BitsOf (a b c : ℕ) : Type 0 where
  x : (a + 2 * b + 4 * c) % 2 ≡ a
  y : (a + 2 * b + 4 * c) / 2 % 2 ≡ b
  z : (a + 2 * b + 4 * c) / 4 ≡ c
  low : a + 2 * b + 4 * c < 8

bits : (a b c : ℕ) → a < 2 → b < 2 → c < 2 → BitsOf a b c
bits a b c ha hb hc = record { x = omega arith; y = omega arith; z = omega arith; low = omega arith }

same_bits : (i j : ℕ) → i % 2 ≡ j % 2 → i / 2 % 2 ≡ j / 2 % 2 → i / 4 ≡ j / 4 → i ≡ j
same_bits i j x y z = omega arith

size_at : (z : ℤ) (i : ℕ) → i < 2 → (side_at z i).base + unit (live z) i ≡ nat_abs z
size_at z i h = sym (size_end (side_at z i) (unit (live z) i)) ∙ ap nat_abs (ends_there z i h)

module _ (k : ℕ) (a b c : ℤ) where
  cube_at : ℕ → Cube
  cube_at j = record { x = side_at a (j % 2); y = side_at b (j / 2 % 2); z = side_at c (j / 4) }

  off : ℕ → ℕ
  off = beyond (live a) (live b) (live c)

  -- the cell that spans cube j
  cell_at : ℕ → Option ℕ
  cell_at j = cond (spans (live a) (live b) (live c) j) (some (number k (place_of_cube k (cube_at j)))) none

  found_spans : (j : ℕ) → is_found (cell_at j) ≡ spans (live a) (live b) (live c) j
  unfolding cell_at is_found
  found_spans j = go (spans (live a) (live b) (live c) j)
    where
      go : (t : Bool) → is_found (cond t (some (number k (place_of_cube k (cube_at j)))) none) ≡ t
      go true = refl
      go false = refl

  -- the point is a vertex of each cube
  at_vertex : (j : ℕ) → j < 8 → a ∷ b ∷ c ∷ [] ≡ vertex (cube_at j) (unit (live a) (j % 2)) (unit (live b) (j / 2 % 2)) (unit (live c) (j / 4))
  unfolding cube_at
  at_vertex j h = three (sym (ends_there a (j % 2) (omega arith))) (sym (ends_there b (j / 2 % 2) (omega arith))) (sym (ends_there c (j / 4) (omega arith)))

  module _ (total : norm (a ∷ b ∷ c ∷ []) ≡ 2 ^ k) where
    sum-at : (j : ℕ) → j < 8 → sum (cube_at j) + off j ≡ 2 ^ k
    unfolding cube_at off beyond norm
    sum-at j h = omega (arith, size_at a (j % 2) (omega arith), size_at b (j / 2 % 2) (omega arith), size_at c (j / 4) (omega arith), total)

    -- a cell found
    record FoundCell (j m : ℕ) : Type 0 where
      spanned : Spanned k (cube_at j)
      is : place k m ≡ place_of_cube k (cube_at j)
      below : m < cells k

    cell_at_lem : (j m : ℕ) → j < 8 → cell_at j ≡ some m → FoundCell j m
    unfolding cell_at spans off
    cell_at_lem j m h e = go (spans (live a) (live b) (live c) j) refl e
      where
        go : (t : Bool) → spans (live a) (live b) (live c) j ≡ t → cond t (some (number k (place_of_cube k (cube_at j)))) none ≡ some m → FoundCell j m
        go false t e = absurd (none-ne-some m e)
        go true t e =
            let u = parts (leb 1 (off j)) (leb (off j) 2) t in
            let s : Spanned k (cube_at j) = omega (arith, sum-at j h, leb-true 1 (off j) u.0, leb-true (off j) 2 u.1) in
            let o = cube_occurs k (cube_at j) s in
            let n : number k (place_of_cube k (cube_at j)) ≡ m = some-injective _ m e in
            record {
              spanned = s;
              is = ap (place k) (sym n) ∙ place_number k (place_of_cube k (cube_at j)) o;
              below = subst (λ (i : ℕ). i < cells k) n (number_below k (place_of_cube k (cube_at j)) o);
            }

    -- it has the point for a corner
    cell-has : (j m : ℕ) → j < 8 → cell_at j ≡ some m → among (a ∷ b ∷ c ∷ []) (corners k (place k m)) ≡ true
    unfolding off beyond
    cell-has j m h e =
        let l = cell_at_lem j m h e in
        let p = place k m in
        let o = place_occurs k m l.below in
        let same : cube_of k p ≡ cube_at j = ap (cube_of k) l.is ∙ cube_place k (cube_at j) l.spanned in
        let v : IsVertex (cube_of k p) (room p.1) (a ∷ b ∷ c ∷ []) = record {
          u = unit (live a) (j % 2);
          v = unit (live b) (j / 2 % 2);
          w = unit (live c) (j / 4);
          small = (unit_small (live a) (j % 2), unit_small (live b) (j / 2 % 2), unit_small (live c) (j / 4));
          total = omega (arith, ap sum same, sum_cube k p o, sum-at j h);
          is = at_vertex j h ∙ ap (λ (d : Cube). vertex d (unit (live a) (j % 2)) (unit (live b) (j / 2 % 2)) (unit (live c) (j / 4))) (sym same);
        } in
        let i = vertex-corner k p o (a ∷ b ∷ c ∷ []) v in
        index_among (a ∷ b ∷ c ∷ []) (corners k p) i.0 i.1 (rw i.2 (same_point_refl (a ∷ b ∷ c ∷ [])))

    -- a cube of such sides, by its three indices
    cube-is : (d : Cube) (i j l : ℕ) → i < 2 → j < 2 → l < 2 → d.x ≡ side_at a i → d.y ≡ side_at b j → d.z ≡ side_at c l → d ≡ cube_at (i + 2 * j + 4 * l)
    unfolding cube_at
    cube-is d i j l hi hj hl ex ey ez =
        let g = bits i j l hi hj hl in
        rw (g.x, g.y, g.z) (λ n. record { x = ex n; y = ey n; z = ez n })

    -- a cell that spans cube j is found
    found_at : (m : ℕ) → m < cells k → (j : ℕ) → j < 8 → cube_of k (place k m) ≡ cube_at j → cell_at j ≡ some m
    unfolding cell_at spans off
    found_at m h j l same =
        let p = place k m in
        let o = place_occurs k m h in
        let units : off j ≡ room p.1 = omega (arith, ap sum same, sum_cube k p o, sum-at j l) in
        let r = room_small p.1 in
        let t : (leb 1 (off j) && leb (off j) 2) ≡ true = both _ _ (le-leb 1 (off j) (omega arith)) (le-leb (off j) 2 (omega arith)) in
        let n : number k (place_of_cube k (cube_at j)) ≡ m
        = ap (λ (d : Cube). number k (place_of_cube k d)) (sym same) ∙ ap (number k) (place_cube k p o) ∙ number_place k m in
        rw t (ap some n)

    -- each cell that has the point for a corner is found
    cell-found : (m : ℕ) → m < cells k → among (a ∷ b ∷ c ∷ []) (corners k (place k m)) ≡ true → (j : ℕ) × (j < 8) × (cell_at j ≡ some m)
    cell-found m h e =
        let p = place k m in
        let o = place_occurs k m h in
        let d = cube_of k p in
        let s = among_index (a ∷ b ∷ c ∷ []) (corners k p) e in
        let v = corner_vertex k p o s.0 s.1 in
        let t = same_coordinates (a ∷ b ∷ c ∷ []) (vertex d v.u v.v v.w) (rw v.is at s.2) in
        let ea = ending d.x v.u a v.small.0 (t 0 (omega arith)) in
        let eb = ending d.y v.v b v.small.1 (t 1 (omega arith)) in
        let ec = ending d.z v.w c v.small.2 (t 2 (omega arith)) in
        let g = bits ea.index eb.index ec.index ea.low eb.low ec.low in
        let j = ea.index + 2 * eb.index + 4 * ec.index in
        let same = cube-is d ea.index eb.index ec.index ea.low eb.low ec.low ea.is eb.is ec.is in
        (j, g.low, found_at m h j g.low same)

    -- no cell is found twice
    cell-once : (i j m : ℕ) → i < 8 → j < 8 → cell_at i ≡ some m → cell_at j ≡ some m → i ≡ j
    unfolding cube_at
    cell-once i j m hi hj e f =
        let l = cell_at_lem i m hi e in
        let r = cell_at_lem j m hj f in
        let same : cube_at i ≡ cube_at j
        = sym (cube_place k (cube_at i) l.spanned) ∙ ap (cube_of k) (sym l.is ∙ r.is) ∙ cube_place k (cube_at j) r.spanned in
        same_bits i j
        (sides_told a (i % 2) (j % 2) (omega arith) (omega arith) (ap (λ (d : Cube). d.x) same))
        (sides_told b (i / 2 % 2) (j / 2 % 2) (omega arith) (omega arith) (ap (λ (d : Cube). d.y) same))
        (sides_told c (i / 4) (j / 4) (omega arith) (omega arith) (ap (λ (d : Cube). d.z) same))

    -- so there are as many as there are cubes that a cell spans
    pub cells_count : length (cells_at k (a ∷ b ∷ c ∷ [])) ≡ point_cells (live a) (live b) (live c)
    unfolding cells_at
    cells_count =
        rising_count cell_at 8 cell-once (λ n. among (a ∷ b ∷ c ∷ []) (corners k (place k n))) (cells k)
        (λ j m h e. ((cell_at_lem j m h e).below, cell-has j m h e))
        cell-found
        ∙ passes_same (λ j. is_found (cell_at j)) (spans (live a) (live b) (live c)) found_spans 8
        ∙ spanned_count (live a) (live b) (live c)

-- ---- where two of the numbers are 0

live_zero : (z : ℤ) → live z ≡ false → z ≡ pos 0
unfolding live
live_zero (pos zero) e = refl
live_zero (pos (suc n)) e = clash refl e
live_zero (negsuc n) e = clash refl e

zero_live : (z : ℤ) → z ≡ pos 0 → live z ≡ false
unfolding live
zero_live z e = ap live e

-- at a tip, where the third number is not 0
pub tip_cells : (a b c : ℤ) → Tip (a ∷ b ∷ c ∷ []) → (a ≡ pos 0 → b ≡ pos 0 → c ≡ pos 0 → ⊥) → point_cells (live a) (live b) (live c) ≡ 4
unfolding Tip point_cells
tip_cells a b c t n = go t
  where
    by-a : (p : Bool) → (p ≡ false → ⊥) → point_cells p false false ≡ 4
    by-a true n = refl
    by-a false n = absurd (n refl)

    by-b : (p : Bool) → (p ≡ false → ⊥) → point_cells false p false ≡ 4
    by-b true n = refl
    by-b false n = absurd (n refl)

    by-c : (p : Bool) → (p ≡ false → ⊥) → point_cells false false p ≡ 4
    by-c true n = refl
    by-c false n = absurd (n refl)

    go : Tip (a ∷ b ∷ c ∷ []) → point_cells (live a) (live b) (live c) ≡ 4
    go (inl e) = rw (zero_live a e.0, zero_live b e.1) (by-c (live c) (λ z. n e.0 e.1 (live_zero c z)))
    go (inr (inl e)) = rw (zero_live a e.0, zero_live c e.1) (by-b (live b) (λ z. n e.0 (live_zero b z) e.1))
    go (inr (inr e)) = rw (zero_live b e.0, zero_live c e.1) (by-a (live a) (λ z. n (live_zero a z) e.0 e.1))

-- elsewhere
pub other_cells : (a b c : ℤ) → (Tip (a ∷ b ∷ c ∷ []) → ⊥) → point_cells (live a) (live b) (live c) ≡ 6
unfolding Tip point_cells
other_cells a b c n = go (live a) (live b) (live c)
    (λ p q. n (inl (live_zero a p, live_zero b q)))
    (λ p r. n (inr (inl (live_zero a p, live_zero c r))))
    (λ q r. n (inr (inr (live_zero b q, live_zero c r))))
  where
    go : (p q r : Bool) → (p ≡ false → q ≡ false → ⊥) → (p ≡ false → r ≡ false → ⊥) → (q ≡ false → r ≡ false → ⊥) → point_cells p q r ≡ 6
    go false false false x y z = absurd (x refl refl)
    go false false true x y z = absurd (x refl refl)
    go false true false x y z = absurd (y refl refl)
    go true false false x y z = absurd (z refl refl)
    go false true true x y z = refl
    go true false true x y z = refl
    go true true false x y z = refl
    go true true true x y z = refl
