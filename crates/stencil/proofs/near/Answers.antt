-- `near` meets its contract. The invariant: the words from 10 to before `w` are written. Assumes nothing.
use mathlib.Core.Path.{refl}
use native.Mathlib.Omega.{arith}
use Rattle.rows.proofs.Shifts.{word_read, word_and}
use Rattle.stencil.proofs.Loops.{written_more}
use Rattle.stencil.proofs.near.Goals as goal

pub loop-w-preserved : goal.loop-w-preserved
loop-w-preserved c =
    let v = word_and (word_read c.args.within.now c.loop-w.w refl) c.near_word.ensures in
    written_more (omega arith) (omega arith) v c.loop-w.invariant
