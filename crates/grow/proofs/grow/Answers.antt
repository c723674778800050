-- What is copied is the mask, and it is grown in place.
use mathlib.Core.Path.{ap, ◌∙◌}
use mathlib.Core.List.{List}
use Prim.Native.Nat.{ℕ}
use Rattle.dilate.specs.Dilate.{dilated}
use Rattle.dilate.proofs.Laws.{dilated_mask}
use Rattle.grow.proofs.Answers.{ready, prepared, rings_done}
use Rattle.grow.proofs.grow.Goals as goal

pub returns : goal.returns
returns c =
    let a = c.args in
    let p = prepared _ _ _ _ c.in_ok-prepare.ensures in
    let r = ready a.level a.rings a.mask.now a.grown.now a.work.now p.0 in
    let e = ap (λ (s : List ℕ × List ℕ). dilated a.level a.rings s.0) p.1 in
    rings_done a.level a.rings a.mask.now a.grown.now a.work.now _ _ _ _ p.0
    (c.dilate.ensures ∙ e ∙ dilated_mask a.level a.rings a.mask.now r.level r.read)
    (ap (λ (s : List ℕ × List ℕ). s.1) p.1)
