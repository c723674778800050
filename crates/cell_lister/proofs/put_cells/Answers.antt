-- `put_cells` meets its contract. The invariant: the level and the first cells are put. Assumes nothing.
use mathlib.Core.Path.{refl}
use native.Mathlib.Omega.{arith}
use lib.ListN.{length}
use Rattle.cell_lister.specs.CellLister.{level_line}
use Rattle.cell_lister.proofs.Laws.{Put, level_short, level_put, cell_put}
use Rattle.cell_lister.proofs.put_cells.Goals as goal
use Rattle.cell_lister.proofs.put_cells.Goals.{After-append-place}

-- the level is put
begun : (c : After-append-place) →
    let a = c.args in
    Put (length a.out.now) (level_line a.level) a.cells.now 0 c.append-place.new.out c.append-place.result
begun c =
    let a = c.args in
    level_put _ a.level a.cells.now a.out.now _ _ _ _ _ _ c.requires.1 refl
    c.append-a.ensures (rw c.from.ensures at c.append_decimal-b.ensures) c.append-place.ensures

pub loop-cell-init : goal.loop-cell-init
loop-cell-init c = let w = begun (goal.at.loop-cell-init c).After-append-place in record { long = refl; end = w.end; front = w.front }

pub loop-cell-preserved : goal.loop-cell-preserved
loop-cell-preserved c =
    let a = c.args in
    let long = (begun (goal.at.loop-cell-preserved c).After-append-place).long in
    cell_put _ (level_line a.level) a.cells.now c.loop-cell.cell-index _ _ _ _ _ _ (omega arith) (level_short a.level) (omega arith) (omega arith)
    c.loop-cell.invariant (rw c.from-in-loop-cell.ensures at c.append_decimal-next.ensures) c.append-place-in-loop-cell.ensures
