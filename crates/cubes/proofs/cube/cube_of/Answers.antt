-- `cube_of` meets its contract: its parts are those of the definition. Assumes nothing.
use Prim.Native.Nat.{ℕ, ◌-◌, ◌^◌}
use mathlib.Core.Path.{sym, ap, ◌∙◌}
use mathlib.Core.Bool.{true, false}
use native.Mathlib.Omega.{arith}
use lib.Dec.{leb}
use Rattle.cell.specs.Cell.{span, triangle_of}
use Rattle.cell.proofs.Laws.{shifted}
use Rattle.corner.proofs.Octants.{second_first}
use Rattle.corner.specs.Corner.{side_of}
use Rattle.adjacency.specs.Cube.{left_over, equatorial_sides, cube_of}
use Rattle.adjacency.proofs.Cubes.{row_of, col_of}
use Rattle.cubes.proofs.cube.cube_of.Goals as goal

pub returns : goal.returns
unfolding cube_of left_over
returns c =
    let k = c.args.site.level.k in
    let p = c.args.site.place in
    let n = 2 ^ k - span (triangle_of p.kind p.row p.col) in
    let l = rw (shifted 32 k (omega (arith, c.args.site.level.bounded))) at c.left_over-l.ensures in
    let b = sym (col_of p.kind p.row p.col) in
    let x = (rw l at c.first_of.ensures) ∙ ap (λ (j : ℕ). (equatorial_sides p.octant n j).0) b in
    let y = (rw l at c.first_of-2.ensures)
    ∙ second_first (side_of false) (side_of true) n p.col p.octant
    ∙ ap (λ (j : ℕ). (equatorial_sides p.octant n j).1) b in
    let z = ap (side_of (leb 4 p.octant)) (sym (row_of p.kind p.row p.col)) in
    λ i. record { x = x i; y = y i; z = z i }
