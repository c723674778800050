-- What is copied is the mask; the cells not marked spread, and what they do not reach is left.
use Prim.Native.Nat.{ℕ, ◌*◌, ◌<◌}
use mathlib.Core.Path.{◌≡◌, ap, subst, ◌∙◌}
use mathlib.Core.List.{List}
use mathlib.Core.Bool.{not}
use lib.ListN.{length}
use Rattle.bitset.specs.Bits.{marked}
use Rattle.bitset.proofs.Outside.{complement_marks}
use Rattle.dilate.proofs.Laws.{dilated_mask}
use Rattle.grow.proofs.Answers.{ready, prepared, rings_done}
use Rattle.grow.proofs.Shrinking.{shrunk_bytes}
use Rattle.grow.proofs.shrink.Goals as goal

pub returns : goal.returns
returns c =
    let a = c.args in
    let m = a.mask.now in
    let p = prepared _ _ _ _ c.in_ok-prepare.ensures in
    let r = ready a.level a.rings m a.shrunk.now a.work.now p.0 in
    let copied = ap (λ (s : List ℕ × List ℕ). s.0) p.1 in
    let outside = subst
    (λ (l : List ℕ). (i : ℕ) → i < 8 * length l → marked c.complement.new.mask i ≡ not (marked l i))
    copied
    (complement_marks _ _ c.complement.ensures) in
    let turned = c.complement.auto.mask ∙ ap length copied ∙ r.read in
    let spread = c.dilate.auto.mask ∙ turned in
    rings_done a.level a.rings m a.shrunk.now a.work.now _ _ _ _ p.0
    (shrunk_bytes a.level a.rings m _ _ _ r.read spread (c.complement-2.auto.mask ∙ spread) (λ i. (c.type_inv.shrunk i).fits)
    outside (c.dilate.ensures ∙ dilated_mask a.level a.rings _ r.level turned) (complement_marks _ _ c.complement-2.ensures))
    (ap (λ (s : List ℕ × List ℕ). s.1) p.1)
