-- `mark_inside` meets its contract. The invariant: the words before `w` are written. Assumes nothing.
use native.Mathlib.Omega.{arith}
use Rattle.stencil.proofs.Loops.{written_more}
use Rattle.stencil.proofs.mark_inside.Goals as goal

pub loop-w-preserved : goal.loop-w-preserved
loop-w-preserved c = written_more (omega arith) (omega arith) c.inside_word.ensures c.loop-w.invariant
