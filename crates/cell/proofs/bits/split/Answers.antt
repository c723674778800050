-- `split` meets its contract: the pass leaves the even bits of the digits and of their half, which are the odd ones. Assumes nothing.
use mathlib.Core.Path.{◌∙◌}
use native.Mathlib.Omega.{arith}
use Rattle.cell.proofs.Runs.{masks}
use Rattle.cell.proofs.Passes.{halves}
use Rattle.cell.proofs.bits.split.Goals as goal

pub returns : goal.returns
unfolding masks
returns c =
    let h = halves c.args.digits (omega arith) in
    (c.upper-high.ensures ∙ h.0, c.lower-low.ensures ∙ h.1)
