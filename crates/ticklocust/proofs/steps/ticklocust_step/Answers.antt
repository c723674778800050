-- `ticklocust_step` meets its contract: a code that no byte holds is as good as any other above 7. Assumes nothing.
use Prim.Native.Nat.{ℕ}
use mathlib.Core.Path.{ap, ◌∙◌}
use Rattle.refusal.specs.Answer.{Answer}
use Rattle.c_values.specs.Values.{told}
use Rattle.ticklocust.proofs.Codes.{same_step}
use Rattle.ticklocust.proofs.steps.ticklocust_step.Goals as goal

pub returns : goal.returns
returns c =
    let a = c.args in
    c.tell.ensures ∙ ap (λ (x : Answer ℕ). told x a.to.now) (c.step_along.ensures ∙ same_step a.level a.cell _ _ c.code_byte.ensures)
