-- The laws of corners and touching, each once over the level k. They are what the crates above cite.
-- Assumes nothing.
use Prim.Native.Nat.{ℕ, zero, suc, ◌+◌, ◌-◌, ◌^◌, ◌≤◌, ◌<◌, min}
use mathlib.Core.Path.{◌≡◌, refl, sym, ap, ap₂, ◌∙◌}
use mathlib.Core.Bool.{true, false}
use mathlib.Core.List.{[], ◌∷◌}
use mathlib.Core.Logic.{inl, inr}
use native.Mathlib.Nat.{one-le-pow}
use native.Mathlib.Omega.{arith}
use lib.IntN.{ℤ, pos, nat_abs}
use lib.ListN.{get_or, length}
use lib.Pow.{pow_mono}
use Rattle.cell.specs.Cell.{Triangle, up, down, span, Place, triangle, place, Occurs, row, col, cells}
use Rattle.cell.proofs.Laws.{place_occurs}
use Rattle.corner.specs.Corner.{Point, norm, corners, coordinate, side_of}
use Rattle.corner.proofs.Octants.{octant-cases}
use Rattle.corner.specs.declared.Side.{Side}
use Rattle.adjacency.specs.Touch.{Tip, CornerCell, touching, cells_at}
use Rattle.adjacency.specs.Cube.{sum, left_over, cube_of, place_of_cube, moved, least, most, touching_way, equatorial_sides}
use Rattle.adjacency.proofs.Sides.{WayBetween, common_end}
use Rattle.adjacency.proofs.Cubes.{room, room_small, place_cube}
use Rattle.adjacency.proofs.Vertices.{vertex, corner_vertex, vertex-corner}
use Rattle.adjacency.proofs.Ways.{way_told, room_is}
use Rattle.adjacency.proofs.Counts.{passes, up_ways, up_ways_lem, down_ways, zero-patterns}
use Rattle.adjacency.proofs.Listed.{touching_ways}
use Rattle.adjacency.proofs.CellsAt.{cells_count, tip_cells, other_cells}

-- ---- a cell is told by its corners

-- two sides that have both ends in common are the same
same_side : (a b : Side) → WayBetween a b 0 → WayBetween a b 1 → a ≡ b
unfolding least most moved
same_side a b x y =
    let e : x.way ≡ y.way = way_told a x.way y.way x.small y.small (sym x.to ∙ y.to) in
    let one : x.way ≡ 1 = omega (arith, x.low, y.high, x.small) in
    sym (x.to ∙ ap (λ (w : ℕ). moved w a) one)

-- units 0 and 1 on one axis, and what is left of the room on another
record UnitsOf (s : ℕ) : Type 0 where
  small : (0 ≤ 1) × (1 ≤ 1) × (s - 1 ≤ 1)
  one_first : 1 + 0 + (s - 1) ≡ s
  one_second : 0 + 1 + (s - 1) ≡ s
  none_third : 1 + (s - 1) + 0 ≡ s
  one_third : 0 + (s - 1) + 1 ≡ s

units : (s : ℕ) → (1 ≤ s) × (s ≤ 2) → UnitsOf s
units s h = record { small = omega arith; one_first = omega arith; one_second = omega arith; none_third = omega arith; one_third = omega arith }

module _ (k : ℕ) (p q : Place) (hp : Occurs k p) (hq : Occurs k q)
    (every : (i : ℕ) → i < 3 → (j : ℕ) × (j < 3) × (get_or (corners k p) i [] ≡ get_or (corners k q) j [])) where
  -- the ways of the three axes to the cube that has a vertex too
  record WaysAt (u v w : ℕ) : Type 0 where
    x : WayBetween (cube_of k p).x (cube_of k q).x u
    y : WayBetween (cube_of k p).y (cube_of k q).y v
    z : WayBetween (cube_of k p).z (cube_of k q).z w

  ways_at : (u v w : ℕ) → (u ≤ 1) × (v ≤ 1) × (w ≤ 1) → u + v + w ≡ room p.1 → WaysAt u v w
  ways_at u v w s t =
      let c = cube_of k p in
      let d = cube_of k q in
      let i = vertex-corner k p hp (vertex c u v w) (record { u = u; v = v; w = w; small = s; total = t; is = refl }) in
      let j = every i.0 i.1 in
      let b = corner_vertex k q hq j.0 j.1 in
      let e : vertex c u v w ≡ vertex d b.u b.v b.w = sym i.2 ∙ j.2 ∙ b.is in
      record {
        x = common_end c.x d.x u b.u s.0 b.small.0 (ap (λ (x : Point). coordinate x 0) e);
        y = common_end c.y d.y v b.v s.1 b.small.1 (ap (λ (x : Point). coordinate x 1) e);
        z = common_end c.z d.z w b.w s.2 b.small.2 (ap (λ (x : Point). coordinate x 2) e);
      }

  -- so the two cells are one
  one_cell : p ≡ q
  one_cell =
      let r = room p.1 - 1 in
      let e = units (room p.1) (room_small p.1) in
      let zero-small = e.small.0 in
      let one-small = e.small.1 in
      let m = ways_at 1 0 r (one-small, zero-small, e.small.2) e.one_first in
      let n = ways_at 0 1 r (zero-small, one-small, e.small.2) e.one_second in
      let l = ways_at 1 r 0 (one-small, e.small.2, zero-small) e.none_third in
      let g = ways_at 0 r 1 (zero-small, e.small.2, one-small) e.one_third in
      let x = same_side (cube_of k p).x (cube_of k q).x n.x m.x in
      let y = same_side (cube_of k p).y (cube_of k q).y m.y n.y in
      let z = same_side (cube_of k p).z (cube_of k q).z l.z g.z in
      let e : cube_of k p ≡ cube_of k q = λ i. record { x = x i; y = y i; z = z i } in
      sym (place_cube k p hp) ∙ ap (place_of_cube k) e ∙ place_cube k q hq

-- two cells of a level that have the same corners are one cell
pub same_corners : (k : ℕ) (p q : Place) → Occurs k p → Occurs k q →
    ((i : ℕ) → i < 3 → (j : ℕ) × (j < 3) × (get_or (corners k p) i [] ≡ get_or (corners k q) j [])) → p ≡ q
same_corners = one_cell

-- ---- how many cells touch a cell

-- the ways of an up cell depend on how many of L, R, T are 0, and so not on which of x and y each is
turn_ways : (x y z : ℕ) → up_ways x y z ≡ up_ways y x z
unfolding up_ways
turn_ways =
    zero-patterns (λ x y z. up_ways x y z ≡ up_ways y x z)
    refl (λ z. refl) (λ y. refl) (λ y z. refl) (λ x. refl) (λ x z. refl) (λ x y. refl) (λ x y z. refl)

cube_ways : (l r t o : ℕ) → up_ways (equatorial_sides o l r).0.base (equatorial_sides o l r).1.base t ≡ up_ways l r t
cube_ways l r t =
    octant-cases (side_of false) (side_of true) l r (λ i s. up_ways s.0.base s.1.base t ≡ up_ways l r t)
    refl (turn_ways r l t) refl (turn_ways r l t)

-- by the triangle: L, R, T of an up cell
triangle_ways : ℕ → Triangle → ℕ
triangle_ways k (up a b) = up_ways (2 ^ k - (a + b + 1)) b a
triangle_ways k (down a b) = 12

place_ways : (k : ℕ) (p : Place) → Occurs k p → passes (touching_way (2 ^ k - sum (cube_of k p)) (cube_of k p)) 27 ≡ triangle_ways k p.1
unfolding triangle_ways cube_of left_over row col room span
place_ways k p h = rw (room_is k p h) (go p.1)
  where
    go : (f : Triangle) → passes (touching_way (room f) (cube_of k (p.0, f))) 27 ≡ triangle_ways k f
    go (up a b) = up_ways_lem (cube_of k (p.0, up a b)) ∙ cube_ways (2 ^ k - (a + b + 1)) b a p.0
    go (down a b) = down_ways (cube_of k (p.0, down a b))

touching_triangle : (k n : ℕ) → n < cells k → length (touching k n) ≡ triangle_ways k (place k n).1
touching_triangle k n h = touching_ways k n h ∙ place_ways k (place k n) (place_occurs k n h)

-- at level 0 six cells touch each cell
pub touching_6 : (n : ℕ) → n < cells 0 → length (touching 0 n) ≡ 6
unfolding triangle_ways up_ways place triangle
touching_6 n h = touching_triangle 0 n h

-- above it ten touch an octant's corner cells: two of L, R, T are 0, and the third is not
ten_ways : (l r t : ℕ) → 1 ≤ l + r + t → min (r + t) (min (l + t) (l + r)) ≡ 0 → up_ways l r t ≡ 10
unfolding up_ways
ten_ways zero zero zero h w = absurd (omega arith)
ten_ways (suc l) zero zero h w = refl
ten_ways zero (suc r) zero h w = refl
ten_ways zero zero (suc t) h w = refl
ten_ways (suc l) (suc r) t h w = absurd (omega arith)
ten_ways (suc l) zero (suc t) h w = absurd (omega arith)
ten_ways zero (suc r) (suc t) h w = absurd (omega arith)

pub touching_10 : (k n : ℕ) → 1 ≤ k → n < cells k → CornerCell k (place k n) → length (touching k n) ≡ 10
unfolding CornerCell triangle_ways
touching_10 k n one h q = touching_triangle k n h ∙ go q
  where
    two : 2 ≤ 2 ^ k
    two = pow_mono {i = 1} {j = k} one

    go : CornerCell k (place k n) → triangle_ways k (place k n).1 ≡ 10
    go (inl e) = rw e (ten_ways _ _ _ (omega (arith, two)) (omega (arith, two)))
    go (inr (inl e)) = rw e (ten_ways _ _ _ (omega (arith, two)) (omega (arith, two)))
    go (inr (inr e)) = rw e (ten_ways _ _ _ (omega (arith, two)) (omega (arith, two)))

-- and twelve touch every other cell: no two of L, R, T are 0, or the cell is a down cell
twelve_ways : (l r t : ℕ) → (r ≡ 0 → t ≡ 0 → ⊥) → (l ≡ 0 → t ≡ 0 → ⊥) → (l ≡ 0 → r ≡ 0 → ⊥) → up_ways l r t ≡ 12
unfolding up_ways
twelve_ways zero zero zero x y z = absurd (x refl refl)
twelve_ways (suc l) zero zero x y z = absurd (x refl refl)
twelve_ways zero (suc r) zero x y z = absurd (y refl refl)
twelve_ways zero zero (suc t) x y z = absurd (z refl refl)
twelve_ways (suc l) (suc r) zero x y z = refl
twelve_ways (suc l) zero (suc t) x y z = refl
twelve_ways zero (suc r) (suc t) x y z = refl
twelve_ways (suc l) (suc r) (suc t) x y z = refl

pub touching_12 : (k n : ℕ) → n < cells k → (CornerCell k (place k n) → ⊥) → length (touching k n) ≡ 12
unfolding CornerCell triangle_ways span
touching_12 k n h q = touching_triangle k n h ∙ go (place k n).1 (place_occurs k n h).1 q
  where
    go : (f : Triangle) → span f ≤ 2 ^ k → (CornerCell k (0, f) → ⊥) → triangle_ways k f ≡ 12
    go (up a b) s n = twelve_ways (2 ^ k - (a + b + 1)) b a
        (λ y z. n (inl (ap₂ up z y)))
        (λ x z. n (inr (inl (ap₂ up z (omega arith)))))
        (λ x y. n (inr (inr (ap₂ up (omega arith) y))))
    go (down a b) s n = refl

-- ---- how many cells have a point for a corner

-- a point of the surface is not the origin
not_origin : (k : ℕ) (a b c : ℤ) → norm (a ∷ b ∷ c ∷ []) ≡ 2 ^ k → a ≡ pos 0 → b ≡ pos 0 → c ≡ pos 0 → ⊥
unfolding norm
not_origin k a b c e x y z = omega (arith, ap nat_abs x, ap nat_abs y, ap nat_abs z, one-le-pow k 2 (omega arith))

-- four cells meet at the octahedron's six corners
pub cells_at_4 : (k : ℕ) (a b c : ℤ) → norm (a ∷ b ∷ c ∷ []) ≡ 2 ^ k → Tip (a ∷ b ∷ c ∷ []) → length (cells_at k (a ∷ b ∷ c ∷ [])) ≡ 4
cells_at_4 k a b c e t = cells_count k a b c e ∙ tip_cells a b c t (not_origin k a b c e)

-- six meet at every other point
pub cells_at_6 : (k : ℕ) (a b c : ℤ) → norm (a ∷ b ∷ c ∷ []) ≡ 2 ^ k → (Tip (a ∷ b ∷ c ∷ []) → ⊥) → length (cells_at k (a ∷ b ∷ c ∷ [])) ≡ 6
cells_at_6 k a b c e n = cells_count k a b c e ∙ other_cells a b c n
