-- What the touching cells of a cell away from its octant's edges are computed by: twelve ways that are the same for all up cells, and their opposites
-- for all down cells. No public contract cites this file: the theorems of proofs/ tie it to the 27 ways.
use Rattle.std.specs.Prelude.{ℕ, ◌+◌, ◌-◌, ◌/◌, ◌%◌, ◌^◌, Bool, ◌&&◌, cond, List, [], ◌∷◌, leb, ltb, eqb, get_or}
use Rattle.cell.specs.declared.Kind.{Kind}
use Rattle.cell.specs.declared.Kind.TheVariants.{Up, Down}
use Rattle.cell.specs.declared.Place as declared
use Rattle.cell.specs.Cell.{Triangle, row, col, triangle_of, number}

-- no base of the cell's cube is 0: of the base on the axis of L enough is left for either kind
unfoldable pub is_inner : ℕ → Triangle → Bool
is_inner k f = ltb 0 (row f) && ltb 0 (col f) && leb (row f + col f + 3) (2 ^ k)

-- the twelve ways, with the axes in the order of L, column and row
unfoldable pub inner_ways : List ℕ
inner_ways = 2 ∷ 4 ∷ 5 ∷ 6 ∷ 7 ∷ 10 ∷ 11 ∷ 12 ∷ 15 ∷ 18 ∷ 19 ∷ 21 ∷ []

unfoldable pub inner_way : Kind → ℕ → ℕ
inner_way Up i = get_or inner_ways i 0
inner_way Down i = 26 - get_or inner_ways i 0

-- a step of an up cell, 1 for none, or the opposite one of a down cell
unfoldable pub inner_step : Kind → ℕ → ℕ
inner_step Up s = s
inner_step Down s = 2 - s

abbrev pub other : Kind → Kind
other Up = Down
other Down = Up

-- the triangle one way on: the kind stays where the steps on the three axes add up to none
unfoldable pub stepped : ℕ → Kind → ℕ → ℕ → Triangle
stepped w t a b = triangle_of (cond (eqb (w % 3 + w / 3 % 3 + w / 9) 3) t (other t)) (a + w / 9 - 1) (b + w / 3 % 3 - 1)

-- touching cell i of the twelve
unfoldable pub inner_cell : ℕ → declared.Place → ℕ → ℕ
inner_cell k p i = number k (p.octant, stepped (inner_way p.kind i) p.kind p.row p.col)
