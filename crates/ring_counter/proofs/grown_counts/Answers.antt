-- Growing a mask of level 5 can be refused for its rings alone, and counting one is never refused.
use Rattle.std.proofs.Common.{replicate, refl, ◌∙◌}
use Rattle.refusal.proofs.Answers.{given_same}
use Rattle.ring_counter.proofs.Laws.{counted, both_counted}
use Rattle.ring_counter.proofs.grown_counts.Goals as goal

pub returns : goal.returns
returns c =
    let a = c.args in
    let before = given_same (c.in_ok-before.ensures ∙ counted a.mask.now c.told-mask) in
    let after = given_same (c.in_ok-after.ensures ∙ counted c.grow.new.grown c.grow.auto.grown) in
    both_counted a.rings a.mask.now (replicate 1024 0) (replicate 1024 0) c.told-mask refl refl c.grow.new.grown c.grow.new.work _ _
    (rw c.from.ensures at c.in_ok-grow.ensures) before after
