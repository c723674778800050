-- A cell's corners are the vertices of its cube that lie on |x| + |y| + |z| = N. Assumes nothing.
use Prim.Native.Nat.{ℕ, zero, suc, ◌+◌, ◌%◌, ◌^◌, ◌≤◌, ◌<◌}
use mathlib.Core.Path.{◌≡◌, refl, sym, ap, ◌∙◌}
use mathlib.Core.List.{[], ◌∷◌}
use native.Mathlib.Omega.{arith}
use lib.IntN.{ℤ, pos}
use lib.ListN.{get_or}
use mathlib.Core.Bool.{false, true}
use Rattle.cell.specs.Cell.{Triangle, up, down, span, Place, Occurs, row, col}
use Rattle.cell.proofs.Laws.{digit_cases}
use Rattle.corner.specs.Corner.{Point, minus, equatorial, polar, point_in, corner, triangle_corners, corners, quarters, side_of}
use Rattle.corner.proofs.Common.{three, index_cases}
use Rattle.corner.specs.declared.Side.{Side}
use Rattle.adjacency.specs.declared.Cube.{Cube}
use Rattle.adjacency.specs.Cube.{left_over, cube_of, equatorial_sides}
use Rattle.adjacency.proofs.Sides.{end}
use Rattle.adjacency.proofs.Cubes.{room}

-- the vertex of a cube that lies u, v, w beyond its bases
abbrev pub vertex : Cube → ℕ → ℕ → ℕ → Point
vertex c u v w = end c.x u ∷ end c.y v ∷ end c.z w ∷ []

-- ---- an octant gives L and R to x and y, or to y and x

-- two numbers in that order
turn : ℕ → ℕ × ℕ → ℕ × ℕ
turn i p = get_or (quarters (λ n. n) (λ n. n) p.0 p.1) i p

record TurnLaws (i : ℕ) (p : ℕ × ℕ) : Type 0 where
  again : turn i (turn i p) ≡ p
  total : (turn i p).0 + (turn i p).1 ≡ p.0 + p.1
  small : p.0 ≤ 1 → p.1 ≤ 1 → ((turn i p).0 ≤ 1) × ((turn i p).1 ≤ 1)

turn_laws : (p : ℕ × ℕ) (i : ℕ) → i < 4 → TurnLaws i p
unfolding turn
turn_laws p = digit_cases _
    (record { again = refl; total = refl; small = λ h g. (h, g) })
    (record { again = refl; total = omega arith; small = λ h g. (g, h) })
    (record { again = refl; total = refl; small = λ h g. (h, g) })
    (record { again = refl; total = omega arith; small = λ h g. (g, h) })

-- the ends of two sides
abbrev ends : Side × Side → ℕ × ℕ → ℤ × ℤ
ends s p = (end s.0 p.0, end s.1 p.1)

equatorial_ends : (o l r : ℕ) (p : ℕ × ℕ) → equatorial pos minus o (l + p.0) (r + p.1) ≡ ends (equatorial_sides o l r) (turn (o % 4) p)
unfolding equatorial turn
equatorial_ends o l r p = digit_cases (λ (i : ℕ). numbers i ≡ ends (sides i) (turn i p)) refl refl refl refl (o % 4) (omega arith)
  where
    numbers : ℕ → ℤ × ℤ
    numbers i = get_or (quarters pos minus (l + p.0) (r + p.1)) i (pos (l + p.0), pos (r + p.1))

    sides : ℕ → Side × Side
    sides i = get_or (quarters (side_of false) (side_of true) l r) i (side_of false l, side_of false r)

-- a point of the octant, u, v, w beyond the cell's bases, is a vertex of its cube
local-vertex :
    (k : ℕ) (p : Place) (uv : ℕ × ℕ) (w : ℕ)
    → point_in p.0 (left_over k p.1 + uv.0) (col p.1 + uv.1) (row p.1 + w)
    ≡ vertex (cube_of k p) (turn (p.0 % 4) uv).0 (turn (p.0 % 4) uv).1 w
unfolding point_in polar cube_of
local-vertex k p uv w =
    let e = equatorial_ends p.0 (left_over k p.1) (col p.1) uv in
    three (ap (λ (q : ℤ × ℤ). q.0) e) (ap (λ (q : ℤ × ℤ). q.1) e) refl

-- ---- the corners of the rules

-- a corner by what it lies beyond the bases
record BeyondBases (k : ℕ) (p : Place) (x : Point) : Type 0 where
  u : ℕ
  v : ℕ
  w : ℕ
  small : (u ≤ 1) × (v ≤ 1) × (w ≤ 1)
  total : u + v + w ≡ room p.1
  is : x ≡ point_in p.0 (left_over k p.1 + u) (col p.1 + v) (row p.1 + w)

pub point_is : (o : ℕ) {l l' r r' t t' : ℕ} → l ≡ l' → r ≡ r' → t ≡ t' → point_in o l r t ≡ point_in o l' r' t'
point_is o a b c i = point_in o (a i) (b i) (c i)

beyond_bases : (k o : ℕ) (f : Triangle) → span f ≤ 2 ^ k → (i : ℕ) → i < 3 → BeyondBases k (o, f) (get_or (triangle_corners k o f) i [])
unfolding triangle_corners corner span left_over row col room
beyond_bases k o (up a b) h = index_cases _
    (record { u = 1; v = 0; w = 0; small = omega arith; total = refl; is = point_is o (omega arith) (omega arith) (omega arith) })
    (record { u = 0; v = 0; w = 1; small = omega arith; total = refl; is = point_is o (omega arith) (omega arith) (omega arith) })
    (record { u = 0; v = 1; w = 0; small = omega arith; total = refl; is = point_is o (omega arith) (omega arith) (omega arith) })
beyond_bases k o (down a b) h = index_cases _
    (record { u = 1; v = 0; w = 1; small = omega arith; total = refl; is = point_is o (omega arith) (omega arith) (omega arith) })
    (record { u = 1; v = 1; w = 0; small = omega arith; total = refl; is = point_is o (omega arith) (omega arith) (omega arith) })
    (record { u = 0; v = 1; w = 1; small = omega arith; total = refl; is = point_is o (omega arith) (omega arith) (omega arith) })

-- which of the three corners a point beyond the bases is
which-corner :
    (k o : ℕ) (f : Triangle)
    → span f ≤ 2 ^ k
    → (u v w : ℕ)
    → u ≤ 1 → v ≤ 1 → w ≤ 1 → u + v + w ≡ room f
    → (i : ℕ) × (i < 3) × (get_or (triangle_corners k o f) i [] ≡ point_in o (left_over k f + u) (col f + v) (row f + w))
unfolding triangle_corners corner span left_over row col room
which-corner k o (up a b) h zero zero zero hu hv hw e = absurd (omega arith)
which-corner k o (up a b) h (suc u) zero zero hu hv hw e = (0, omega arith, point_is o (omega arith) (omega arith) (omega arith))
which-corner k o (up a b) h zero zero (suc w) hu hv hw e = (1, omega arith, point_is o (omega arith) (omega arith) (omega arith))
which-corner k o (up a b) h zero (suc v) w hu hv hw e = (2, omega arith, point_is o (omega arith) (omega arith) (omega arith))
which-corner k o (up a b) h (suc u) zero (suc w) hu hv hw e = absurd (omega arith)
which-corner k o (up a b) h (suc u) (suc v) w hu hv hw e = absurd (omega arith)
which-corner k o (down a b) h (suc u) zero w hu hv hw e = (0, omega arith, point_is o (omega arith) (omega arith) (omega arith))
which-corner k o (down a b) h (suc u) (suc v) w hu hv hw e = (1, omega arith, point_is o (omega arith) (omega arith) (omega arith))
which-corner k o (down a b) h zero v w hu hv hw e = (2, omega arith, point_is o (omega arith) (omega arith) (omega arith))

-- ---- corners and vertices

-- x is a vertex of the cube on |x| + |y| + |z| = N
pub record IsVertex (c : Cube) (s : ℕ) (x : Point) : Type 0 where
  pub u : ℕ
  pub v : ℕ
  pub w : ℕ
  pub small : (u ≤ 1) × (v ≤ 1) × (w ≤ 1)
  pub total : u + v + w ≡ s
  pub is : x ≡ vertex c u v w

pub corner_vertex : (k : ℕ) (p : Place) → Occurs k p → (i : ℕ) → i < 3 → IsVertex (cube_of k p) (room p.1) (get_or (corners k p) i [])
corner_vertex k p h i s =
    let b = beyond_bases k p.0 p.1 h.1 i s in
    let t = turn_laws (b.u, b.v) (p.0 % 4) (omega arith) in
    let sm = t.small b.small.0 b.small.1 in
    record {
      u = (turn (p.0 % 4) (b.u, b.v)).0;
      v = (turn (p.0 % 4) (b.u, b.v)).1;
      w = b.w;
      small = (sm.0, sm.1, b.small.2);
      total = omega (arith, t.total, b.total);
      is = b.is ∙ local-vertex k p (b.u, b.v) b.w;
    }

pub vertex-corner :
    (k : ℕ) (p : Place)
    → Occurs k p
    → (x : Point)
    → IsVertex (cube_of k p) (room p.1) x → (i : ℕ) × (i < 3) × (get_or (corners k p) i [] ≡ x)
vertex-corner k p h x q =
    let j = p.0 % 4 in
    let t = turn_laws (q.u, q.v) j (omega arith) in
    let sm = t.small q.small.0 q.small.1 in
    let uv = turn j (q.u, q.v) in
    let c = which-corner k p.0 p.1 h.1 uv.0 uv.1 q.w sm.0 sm.1 q.small.2 (omega (arith, t.total, q.total)) in
    let l = rw t.again at (local-vertex k p uv q.w) in
    (c.0, c.1, c.2 ∙ l ∙ sym q.is)
