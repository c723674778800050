-- `points_of` meets its contract. The invariant: the words from 10 to before `w` are written. Assumes nothing.
use native.Mathlib.Omega.{arith}
use Rattle.stencil.proofs.Loops.{written_more}
use Rattle.stencil.proofs.points_of.Goals as goal

pub loop-w-preserved : goal.loop-w-preserved
loop-w-preserved c = written_more (omega arith) (omega arith) c.points_word.ensures c.loop-w.invariant
