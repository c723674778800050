-- `odd_from` meets its contract: it folds the number onto itself four times. Assumes nothing.
use Rattle.cell.proofs.Odd.{odd_from_lem}
use Rattle.cell.proofs.bits.odd_from.Goals as goal

pub returns : goal.returns
returns c = λ k h l. odd_from_lem k c.args.x h l
