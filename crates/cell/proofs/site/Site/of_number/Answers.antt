-- A number that the level has leads to a place that occurs. Assumes nothing.
use mathlib.Core.Path.{sym, subst, ap}
use mathlib.Core.Bool.{not}
use Rattle.cell.specs.Cell.{Occurs}
use Rattle.cell.proofs.Laws.{a_cell, place_occurs}
use Rattle.cell.proofs.site.Site.of_number.Goals as goal

pub invariant_of-result : goal.invariant_of-result
invariant_of-result c =
    let k = c.args.level.k in
    record {
      occurs = subst (Occurs k) (sym c.descend-place.ensures) (place_occurs k c.args.cell (a_cell _ k c.args.cell c.is_cell.ensures (ap not c.if-not-is_cell.false)));
    }
