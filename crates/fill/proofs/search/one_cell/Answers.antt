-- `one_cell` meets its contract: the mask is cleared, the cell marked, and put into rows. Assumes nothing.
use mathlib.Core.Path.{◌∙◌}
use Rattle.fill.proofs.Placing.{in_rows_lem, one_marks}
use Rattle.fill.proofs.search.one_cell.Goals as goal

pub returns : goal.returns
returns c =
    let a = c.args in
    let n = c.mark.auto.mask ∙ c.clear.auto.mask ∙ c.requires in
    let m = one_marks a.cell.level.k a.cell.number a.out.now _ _ a.cell.below c.requires c.clear.ensures c.mark.ensures in
    in_rows_lem a.cell.level.k _ _ a.rows.now.up a.rows.now.down _ _ a.cell.level.bounded n (λ i l. m i) c.to_rows.ensures.ups c.to_rows.ensures.downs
