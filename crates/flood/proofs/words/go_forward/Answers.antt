-- `go_forward` meets its contract. The invariant: the words before `at` are gone over. Assumes nothing.
use mathlib.Core.Path.{◌≡◌}
use native.Mathlib.Omega.{arith}
use Rattle.rows.specs.Rows.{cells_end}
use Rattle.flood.proofs.Joining.{turn_words}
use Rattle.flood.proofs.words.go_forward.Goals as goal

pub loop-at-preserved : goal.loop-at-preserved
loop-at-preserved c =
    let l = c.loop-at in
    turn_words (omega arith) l.invariant c.settle_word-changed.ensures

pub returns : goal.returns
returns c =
    let l = c.loop-at in
    let e : l.at ≡ cells_end = omega arith in
    rw e at l.invariant
