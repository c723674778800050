-- `cells_of` meets its contract. The invariant: the words from 10 to before `w` are written. Assumes nothing.
use native.Mathlib.Omega.{arith}
use Rattle.rows.specs.Words.{with_next}
use Rattle.stencil.specs.Stencil.{up_of}
use Rattle.stencil.proofs.Loops.{written_more}
use Rattle.stencil.proofs.cells_of.Goals as goal

pub loop-w-preserved : goal.loop-w-preserved
unfolding up_of with_next
loop-w-preserved c =
    let i = c.loop-w.invariant in
    (written_more (omega arith) (omega arith) c.with_next.ensures i.0, written_more (omega arith) (omega arith) c.down_word.ensures i.1)
