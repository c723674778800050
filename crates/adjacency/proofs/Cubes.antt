-- Places and cubes: each place that occurs spans a cube whose bases add up to N less 1 or 2, and each such cube is spanned by one place. Assumes nothing.
use Prim.Native.Nat.{ℕ, ◌+◌, ◌-◌, ◌%◌, ◌^◌, ◌≤◌, ◌<◌}
use mathlib.Core.Path.{◌≡◌, refl}
use mathlib.Core.Bool.{Bool, true, false, cond}
use native.Mathlib.Omega.{arith}
use borrow.Author.Tests.{le-leb, lt-leb, leb-true, leb-false, eq-eqb, ne_eqb, eqb-true, eqb-false}
use lib.Dec.{leb, eqb}
use Rattle.cell.specs.declared.Kind.{Kind}
use Rattle.cell.specs.declared.Kind.TheVariants.{Up, Down}
use Rattle.cell.specs.Cell.{Triangle, up, down, span, Place, Occurs, triangle_of, row, col}
use Rattle.corner.specs.Corner.{equatorial, side_of}
use Rattle.corner.proofs.Octants.{octant-cases}
use Rattle.corner.specs.declared.Side.{Side}
use Rattle.adjacency.specs.declared.Cube.{Cube}
use Rattle.adjacency.specs.Cube.{sum, left_over, cube_of, northern_octant, column, place_in, place_of_cube, equatorial_sides}

-- N less the bases: 1 for up, 2 for down
unfoldable pub room : Triangle → ℕ
room (up a b) = 1
room (down a b) = 2

pub room_small : (f : Triangle) → (1 ≤ room f) × (room f ≤ 2)
unfolding room
room_small (up a b) = omega arith
room_small (down a b) = omega arith

pub span_is : (f : Triangle) → span f ≡ row f + col f + room f
unfolding span row col room
span_is (up a b) = refl
span_is (down a b) = refl

-- octant and column by the signs of the sides, and their bases together
record BySigns (l r i : ℕ) (s : Side × Side) : Type 0 where
  octants : northern_octant s.0.negative s.1.negative ≡ i
  columns : column s.0.negative s.1.negative s.0.base s.1.base ≡ r
  bases : s.0.base + s.1.base ≡ l + r

by_signs : (l r o : ℕ) → BySigns l r (o % 4) (equatorial_sides o l r)
unfolding northern_octant column
by_signs l r = octant-cases (side_of false) (side_of true) l r (BySigns l r)
    (record { octants = refl; columns = refl; bases = refl })
    (record { octants = refl; columns = refl; bases = omega arith })
    (record { octants = refl; columns = refl; bases = refl })
    (record { octants = refl; columns = refl; bases = omega arith })

-- ---- from a place to its cube

pub sum_cube : (k : ℕ) (p : Place) → Occurs k p → sum (cube_of k p) + room p.1 ≡ 2 ^ k
unfolding cube_of left_over
sum_cube k p h = omega (arith, (by_signs (2 ^ k - span p.1) (col p.1) p.0).bases, span_is p.1, h.1)

hemisphere : (o : ℕ) → o < 8 → o % 4 + cond (leb 4 o) 4 0 ≡ o
hemisphere o h = go (leb 4 o) refl
  where
    go : (b : Bool) → leb 4 o ≡ b → o % 4 + cond b 4 0 ≡ o
    go true e = omega (arith, leb-true 4 o e)
    go false e = omega (arith, leb-false 4 o e)

-- the triangle is told up from down by its sum
triangle_again : (f : Triangle) (n M : ℕ) → n + room f ≡ M → cond (eqb (n + 1) M) (up (row f) (col f)) (down (row f) (col f)) ≡ f
unfolding room row col
triangle_again (up a b) n M e = rw (eq-eqb (n + 1) M e)
triangle_again (down a b) n M e = rw (ne_eqb (n + 1) M (λ (d : n + 1 ≡ M). omega arith))

pub place_cube : (k : ℕ) (p : Place) → Occurs k p → place_of_cube k (cube_of k p) ≡ p
unfolding place_in cube_of
place_cube k p h =
    let w = by_signs (left_over k p.1) (col p.1) p.0 in
    let o : (place_of_cube k (cube_of k p)).0 ≡ p.0 = rw w.octants (hemisphere p.0 h.0) in
    let f : (place_of_cube k (cube_of k p)).1 ≡ p.1 = rw w.columns (triangle_again p.1 (sum (cube_of k p)) (2 ^ k) (sum_cube k p h)) in
    λ i. (o i, f i)

-- ---- from a cube to its place

-- a cube that a cell of level k spans
abbrev pub Spanned : ℕ → Cube → Type 0
Spanned k c = (sum c + 1 ≤ 2 ^ k) × (2 ^ k ≤ sum c + 2)

record TriangleTold (k : ℕ) (c : Cube) (f : Triangle) : Type 0 where
  rows : row f ≡ c.z.base
  cols : col f ≡ column c.x.negative c.y.negative c.x.base c.y.base
  rooms : sum c + room f ≡ 2 ^ k

triangle_told : (k : ℕ) (c : Cube) → Spanned k c → TriangleTold k c (place_of_cube k c).1
unfolding place_in row col room
triangle_told k c h = go (eqb (sum c + 1) (2 ^ k)) refl
  where
    b : ℕ
    b = column c.x.negative c.y.negative c.x.base c.y.base

    go : (t : Bool) → eqb (sum c + 1) (2 ^ k) ≡ t → TriangleTold k c (cond t (up c.z.base b) (down c.z.base b))
    go true e = record { rows = refl; cols = refl; rooms = eqb-true (sum c + 1) (2 ^ k) e }
    go false e = let n : sum c + 1 ≡ 2 ^ k → ⊥ = eqb-false (sum c + 1) (2 ^ k) e in record { rows = refl; cols = refl; rooms = omega arith }

record SidesAgain (nx ny : Bool) (x y : ℕ) : Type 0 where
  low : northern_octant nx ny < 4
  within : column nx ny x y ≤ x + y
  again : (o : ℕ) → o % 4 ≡ northern_octant nx ny → equatorial_sides o (x + y - column nx ny x y) (column nx ny x y) ≡ (side_of nx x, side_of ny y)

sides_again : (nx ny : Bool) (x y : ℕ) → SidesAgain nx ny x y
unfolding northern_octant column equatorial
sides_again false false x y = let e : x + y - y ≡ x = omega arith in record { low = omega arith; within = omega arith; again = λ o q. rw (q, e) }
sides_again true false x y = let e : x + y - x ≡ y = omega arith in record { low = omega arith; within = omega arith; again = λ o q. rw (q, e) }
sides_again true true x y = let e : x + y - y ≡ x = omega arith in record { low = omega arith; within = omega arith; again = λ o q. rw (q, e) }
sides_again false true x y = let e : x + y - x ≡ y = omega arith in record { low = omega arith; within = omega arith; again = λ o q. rw (q, e) }

hemisphere_again : (g : ℕ) → g < 4 → (n : Bool) → leb 4 (g + cond n 4 0) ≡ n
hemisphere_again g h true = le-leb 4 (g + 4) (omega arith)
hemisphere_again g h false = lt-leb 4 (g + 0) (omega arith)

below_eight : (g : ℕ) → g < 4 → (n : Bool) → g + cond n 4 0 < 8
below_eight g h true = omega arith
below_eight g h false = omega arith

pub cube_occurs : (k : ℕ) (c : Cube) → Spanned k c → Occurs k (place_of_cube k c)
unfolding place_in
cube_occurs k c h =
    let s = sides_again c.x.negative c.y.negative c.x.base c.y.base in
    let t = triangle_told k c h in
    let g = northern_octant c.x.negative c.y.negative in
    (below_eight g s.low c.z.negative, omega (arith, span_is (place_of_cube k c).1, t.rows, t.cols, t.rooms, s.within))

octant_again : (g : ℕ) → g < 4 → (n : Bool) → (g + cond n 4 0) % 4 ≡ g
octant_again g h true = omega arith
octant_again g h false = omega arith

pub cube_place : (k : ℕ) (c : Cube) → Spanned k c → cube_of k (place_of_cube k c) ≡ c
unfolding cube_of left_over place_in
cube_place k c h =
    let nx = c.x.negative in
    let ny = c.y.negative in
    let x = c.x.base in
    let y = c.y.base in
    let s = sides_again nx ny x y in
    let t = triangle_told k c h in
    let p = place_of_cube k c in
    let l : 2 ^ k - span p.1 ≡ x + y - column nx ny x y = omega (arith, span_is p.1, t.rows, t.cols, t.rooms, s.within) in
    let o : p.0 % 4 ≡ northern_octant nx ny = octant_again (northern_octant nx ny) s.low c.z.negative in
    let n : leb 4 p.0 ≡ c.z.negative = hemisphere_again (northern_octant nx ny) s.low c.z.negative in
    let e : equatorial_sides p.0 (2 ^ k - span p.1) (col p.1) ≡ (c.x, c.y) = rw (l, t.cols) (s.again p.0 o) in
    λ i. record { x = (e i).0; y = (e i).1; z = side_of (n i) (t.rows i) }

-- ---- triangles as the code holds them

pub row_of : (t : Kind) (a b : ℕ) → row (triangle_of t a b) ≡ a
unfolding row
row_of Up a b = refl
row_of Down a b = refl

pub col_of : (t : Kind) (a b : ℕ) → col (triangle_of t a b) ≡ b
unfolding col
col_of Up a b = refl
col_of Down a b = refl
