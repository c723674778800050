-- `to_rows` meets its contract: the rows are cleared and the marked cells set, where the slice is a mask of the level. Assumes nothing.
use mathlib.Core.Path.{sym, ◌∙◌}
use Rattle.bitset.specs.Bits.{marked}
use Rattle.cell.specs.Cell.{up, down}
use Rattle.rows.specs.Rows.{word_count}
use Rattle.raster.proofs.Answers.{ok_is, all_added}
use Rattle.raster.proofs.to_rows.Goals as goal

pub returns-then-is_ok : goal.returns-then-is_ok
returns-then-is_ok c =
    let p = c.put_pieces.ensures in
    let a = c.args in
    let m = sym (c.if-is_ok.ensures.value ∙ ok_is a.level a.mask.now _ c.is_mask.ensures) in
    let A = marked a.mask.now in
    record {
      ups = λ i. rw m (all_added up a.level word_count A _ p.ups i);
      downs = λ i. rw m (all_added down a.level word_count A _ p.downs i);
    }
