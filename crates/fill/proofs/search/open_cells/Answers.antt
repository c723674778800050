-- `open_cells` meets its contract: the border is copied, complemented and put into rows. Assumes nothing.
use Rattle.fill.proofs.Placing.{in_rows_lem, open_long, open_marks}
use Rattle.fill.proofs.search.open_cells.Goals as goal

pub returns : goal.returns
returns c =
    let a = c.args in
    let n = open_long a.border.level.k a.border.bytes.now _ _ a.border.whole c.copy_from_slice.ensures.after c.complement.ensures in
    let m = open_marks a.border.level.k a.border.bytes.now _ _ a.border.whole c.copy_from_slice.ensures.after c.complement.ensures in
    in_rows_lem a.border.level.k _ _ a.rows.now.up a.rows.now.down _ _ a.border.level.bounded n m c.to_rows.ensures.ups c.to_rows.ensures.downs
