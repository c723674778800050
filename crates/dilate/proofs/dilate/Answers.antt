-- `dilate` meets its contract: the mask is grown where the slice is one of the level. Assumes nothing.
use mathlib.Core.Path.{sym, ◌∙◌}
use Rattle.raster.proofs.Answers.{ok_is, mask_is}
use Rattle.dilate.proofs.Laws.{dilated_mask, dilated_other}
use Rattle.dilate.proofs.dilate.Goals as goal

pub returns-then-is_ok : goal.returns-then-is_ok
returns-then-is_ok c =
    let a = c.args in
    let m = mask_is a.level a.mask.now (sym (c.if-is_ok.ensures.value ∙ ok_is a.level a.mask.now _ c.is_mask.ensures)) in
    c.dilate_mask.ensures ∙ sym (dilated_mask a.level a.rings a.mask.now m.0 m.1)

pub returns-else-is_ok : goal.returns-else-is_ok
returns-else-is_ok c =
    let a = c.args in
    sym (dilated_other a.level a.rings a.mask.now (sym (c.if-is_ok.ensures.value ∙ ok_is a.level a.mask.now _ c.is_mask.ensures)))
