-- A mask is short enough to count.
use Rattle.std.proofs.Common.{rules}
use Rattle.mask.proofs.Answers.{mask_short}
use Rattle.mask.proofs.count.Goals as goal

pub sum_ones-requires : goal.sum_ones-requires
sum_ones-requires c = search (rules, mask_short)
