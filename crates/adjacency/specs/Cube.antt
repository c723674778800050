-- What the list of touching cells is computed by. No contract of `touch` and no demand cites this file: the theorems of proofs/ tie it to touching by points.
-- A cell spans one unit cube of the whole numbers: on each axis its corners lie at `base` or `base + 1` from zero, on one side of it.
use Rattle.std.specs.Prelude.{ℕ, zero, suc, ◌+◌, ◌-◌, ◌/◌, ◌%◌, ◌^◌, Bool, true, false, ◌&&◌, not, cond, List, leb, eqb, set}
use Rattle.std.proofs.Math.Option.{Option, none, some}
use Rattle.cell.specs.Cell.{Triangle, up, down, span, row, col, Place, number}
use Rattle.corner.specs.declared.Side.{Side}
use Rattle.corner.specs.Corner.{equatorial, side_of}
use Rattle.adjacency.specs.declared.Cube.{Cube}

-- ---- cubes

-- the bases together
abbrev pub sum : Cube → ℕ
sum c = c.x.base + c.y.base + c.z.base

-- the base on the axis of L: what row, column and kind leave of N
unfoldable pub left_over : ℕ → Triangle → ℕ
left_over k f = 2 ^ k - span f

-- the sides that octant o gives to L and R, as it gives points
abbrev pub equatorial_sides : ℕ → ℕ → ℕ → Side × Side
equatorial_sides = equatorial (side_of false) (side_of true)

-- the cube of a cell
unfoldable pub cube_of : ℕ → Place → Cube
cube_of k p =
    let s = equatorial_sides p.0 (left_over k p.1) (col p.1) in
    record { x = s.0; y = s.1; z = side_of (leb 4 p.0) (row p.1) }

-- the northern octant by the signs of x and y, and the column
unfoldable pub northern_octant : Bool → Bool → ℕ
northern_octant false false = 0
northern_octant true false = 1
northern_octant true true = 2
northern_octant false true = 3

unfoldable pub column : Bool → Bool → ℕ → ℕ → ℕ
column false false x y = y
column true false x y = x
column true true x y = y
column false true x y = x

-- the place of the cell of a level with n rows that spans a cube
unfoldable pub place_in : ℕ → Cube → Place
place_in n c =
    let b = column c.x.negative c.y.negative c.x.base c.y.base in
    (northern_octant c.x.negative c.y.negative + cond c.z.negative 4 0, cond (eqb (sum c + 1) n) (up c.z.base b) (down c.z.base b))

abbrev pub place_of_cube : ℕ → Cube → Place
place_of_cube k c = place_in (2 ^ k) c

-- ---- ways from a cube to the next

-- on each axis: 0 towards zero, or across it; 1 none; 2 away from zero
unfoldable pub inward : Bool → ℕ → Side
inward n zero = side_of (not n) 0
inward n (suc b) = side_of n b

unfoldable pub moved : ℕ → Side → Side
moved zero s = inward s.negative s.base
moved (suc zero) s = s
moved (suc (suc w)) s = side_of s.negative (s.base + 1)

-- the 27 ways: way w goes w % 3 on x, w / 3 % 3 on y, w / 9 on z
unfoldable pub moved_cube : ℕ → Cube → Cube
moved_cube w c = record { x = moved (w % 3) c.x; y = moved (w / 3 % 3) c.y; z = moved (w / 9) c.z }

-- the least and the most that a corner shared along a way can lie beyond `base`, and what the way takes off a base that is not 0
unfoldable pub least : ℕ → ℕ
least w = w / 2

unfoldable pub most : ℕ → ℕ
most w = (w + 1) / 2

unfoldable pub taken : ℕ → ℕ → ℕ
taken zero zero = 0
taken zero (suc b) = 1
taken (suc w) b = 0

-- whether the sums along a way fit: a shared corner lies `room` beyond the bases, and the next cube's bases leave 1 or 2 of N
unfoldable pub sums_fit : ℕ → ℕ → ℕ → ℕ → Bool
sums_fit room lo hi off = leb lo room && leb room hi && leb (lo + 1) (room + off) && leb (room + off) (lo + 2)

-- whether way w leads from the cube of a cell to that of one that touches it: `room` is N less the bases, 1 for up and 2 for down
unfoldable pub touching_way : ℕ → Cube → ℕ → Bool
touching_way room c w =
    not (eqb w 13)
    && sums_fit room (least (w % 3) + least (w / 3 % 3) + least (w / 9)) (most (w % 3) + most (w / 3 % 3) + most (w / 9))
    (taken (w % 3) c.x.base + taken (w / 3 % 3) c.y.base + taken (w / 9) c.z.base)

-- the touching cell that way w leads to, if there is one
unfoldable pub cell_along : ℕ → Cube → ℕ → Option ℕ
cell_along k c w = cond (touching_way (2 ^ k - sum c) c w) (some (number k (place_of_cube k (moved_cube w c)))) none

-- ---- the slice

-- a slice and how many of it are used, with one cell more where there is one
unfoldable pub with_cell : Option ℕ → List ℕ × ℕ → List ℕ × ℕ
with_cell none s = s
with_cell (some x) s = (set s.0 s.1 x, s.1 + 1)

-- the same after the ways below w
unfoldable pub gathered : ℕ → Cube → List ℕ → ℕ → List ℕ × ℕ
gathered k c s zero = (s, 0)
gathered k c s (suc w) = with_cell (cell_along k c w) (gathered k c s w)
