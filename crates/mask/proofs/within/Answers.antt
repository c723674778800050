-- Two masks of a level are of one length.
use Rattle.std.proofs.Common.{arith}
use Rattle.mask.proofs.Answers.{mask_long, mask_short}
use Rattle.mask.proofs.within.Goals as goal

pub first_lacking-requires : goal.first_lacking-requires
first_lacking-requires c = grind (arith, mask_long, mask_short)
