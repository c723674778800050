-- `reach_all` meets its contract: the rows in which all steps were taken hold the cells that can be reached. Assumes nothing.
use mathlib.Core.Path.{◌∙◌}
use Rattle.bitset.specs.Bits.{marked}
use Rattle.fill.proofs.Placing.{is_mask_lem}
use Rattle.fill.proofs.Reaching.{reached_rows}
use Rattle.fill.proofs.search.reach_all.Goals as goal

pub returns : goal.returns
returns c =
    let a = c.args in
    let h = c.requires in
    let n = c.one_cell.auto.out ∙ c.open_cells.auto.out ∙ h.1 in
    c.from_rows.ensures
    ∙ rw (is_mask_lem a.outside.level.k _ a.outside.level.bounded n)
    (reached_rows a.outside.level.k a.outside.number (marked a.border.now) a.outside.level.bounded a.outside.below _ _ _ _ _ _ c.open_cells.ensures c.one_cell.ensures c.flood.ensures)
