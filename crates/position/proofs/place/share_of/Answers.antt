-- `share_of` meets its contract: q² is a whole number of parts of 2^level. Assumes nothing.
use native.Mathlib.Omega.{arith}
use Rattle.position.proofs.Laws.{share_whole, share_rest, share_fits}
use Rattle.position.proofs.place.share_of.Goals as goal

pub overflow_mul-rest : goal.overflow_mul-rest
overflow_mul-rest c = rw c.rows_of.ensures.0 (omega (arith, share_fits c.args.level.k c.args.part c.args.level.bounded))

pub returns-clause-whole : goal.returns-clause-whole
returns-clause-whole c = share_whole c.args.level.k c.args.part c.args.level.bounded

pub returns-clause-rest : goal.returns-clause-rest
returns-clause-rest c = rw c.rows_of.ensures.0 (share_rest c.args.level.k c.args.part c.args.level.bounded)
