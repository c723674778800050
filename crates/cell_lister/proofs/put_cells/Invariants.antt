use lib.ListN.{length}
use Rattle.cell_lister.specs.CellLister.{level_line}
use Rattle.cell_lister.proofs.Laws.{Put}
use Rattle.cell_lister.proofs.put_cells.Given as goal

abbrev pub invariant-loop-cell : goal.invariant-loop-cell
invariant-loop-cell l = Put (length l.initial.out) (level_line l.level) l.cells l.cell-index l.out l.place
