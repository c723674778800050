-- `join` meets its contract: the pass spreads both halves, and the digits are taken off it. Assumes nothing.
use mathlib.Core.Path.{◌∙◌}
use Rattle.cell.proofs.Runs.{masks}
use Rattle.cell.proofs.Passes.{joined}
use Rattle.cell.proofs.bits.join.Goals as goal

pub returns : goal.returns
unfolding masks
returns c = c.lower.ensures ∙ joined c.args.high c.args.low c.requires.0 c.requires.1
