-- `add_along` meets its contract: a touching way leads to a cube that a cell of the level spans, and its number is added.
-- Assumes nothing.
use Prim.Native.Nat.{◌<◌}
use mathlib.Core.Path.{◌≡◌, sym, ap, ap₂, subst, ◌∙◌}
use mathlib.Core.Bool.{true}
use mathlib.Core.Option.{some}
use native.Mathlib.Omega.{arith}
use borrow.Author.Tests.{not-true, not-false}
use lib.ListN.{length}
use lib.Pow.{pow_mono}
use Rattle.cell.specs.Cell.{Occurs, place_of, number, max_level}
use Rattle.cell.proofs.Laws.{shifted}
use Rattle.adjacency.specs.Cube.{sum, moved_cube, place_in, place_of_cube, touching_way, cell_along, with_cell}
use Rattle.adjacency.proofs.Cubes.{Spanned, cube_occurs}
use Rattle.adjacency.proofs.Ways.{no_cell, a_cell, moved_spanned}
use mathlib.Core.Bool.{not}
use Rattle.cubes.proofs.add_along.Goals as goal
use Rattle.cubes.proofs.add_along.Goals.{After-number, After-place_of_cube-place, Else-not-are_touching}

pub returns-then-not-are_touching : goal.returns-then-not-are_touching
unfolding with_cell
returns-then-not-are_touching c =
    let a = c.args in
    rw (← (no_cell a.level.k a.room a.cube c.requires.room.0 a.ways.number (sym c.are_touching.ensures ∙ not-true _ (ap not c.if-not-are_touching.true))))

-- the way leads to a touching cell, so the next cube is next-spanned by one
leads-on : (c : Else-not-are_touching) → touching_way c.args.room c.args.cube c.args.ways.number ≡ true
leads-on c = sym c.are_touching.ensures ∙ not-false _ (ap not c.if-not-are_touching.false)

next-spanned : (c : Else-not-are_touching) → Spanned c.args.level.k (moved_cube c.args.ways.number c.args.cube)
next-spanned c =
    let a = c.args in
    moved_spanned a.level.k a.room a.cube c.requires.room.0 a.ways.number a.ways.few (leads-on c)

pub place_of_cube-place-requires : goal.place_of_cube-place-requires
place_of_cube-place-requires c =
    omega (arith, ap sum c.from.ensures, next-spanned (goal.at.place_of_cube-place-requires c).Else-not-are_touching, pow_mono {i = c.args.level.k} {j = max_level} c.args.level.bounded)

-- the place of that cell
reached :
    (c : After-place_of_cube-place)
    → let a = c.args in place_of c.place_of_cube-place.result ≡ place_of_cube a.level.k (moved_cube a.ways.number a.cube)
reached c =
    c.place_of_cube-place.ensures ∙ ap₂ place_in (shifted 32 c.args.level.k (omega (arith, c.args.level.bounded))) c.from.ensures

pub invariant_of-site : goal.invariant_of-site
invariant_of-site c =
    record { occurs = subst (Occurs c.args.level.k) (sym (reached (goal.at.invariant_of-site c).After-place_of_cube-place)) (cube_occurs c.args.level.k _ (next-spanned (goal.at.invariant_of-site c).Else-not-are_touching)) }

-- so the cell along the way is the one whose number was given, and there is room for it
cell-known :
    (c : After-number)
    → let a = c.args in cell_along a.level.k a.cube a.ways.number ≡ some c.number.result
cell-known c =
    let a = c.args in
    sym (a_cell a.level.k a.room a.cube c.requires.room.0 a.ways.number (leads-on (goal.at.After-number c).Else-not-are_touching))
    ∙ ap some (sym (c.number.ensures ∙ ap (number a.level.k) (reached (goal.at.After-number c).After-place_of_cube-place)))

room-left : (c : After-number) → let a = c.args in a.count < length a.found.now
room-left c = c.requires.by_index c.number.result (cell-known c)

pub offset_bounds-found-count : goal.offset_bounds-found-count
offset_bounds-found-count c = omega (arith, room-left c, c.well_formed)

pub bounds-found-count : goal.bounds-found-count
bounds-found-count c = room-left c

pub overflow_add-result : goal.overflow_add-result
overflow_add-result c = omega (arith, room-left c, c.well_formed)

pub returns : goal.returns
unfolding with_cell
returns c = rw (cell-known c)
