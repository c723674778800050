-- `points_word` meets its contract: the words of the up cells here, of the last row and one place on, and those of the down cells, joined. Assumes nothing.
use Prim.Native.Nat.{◌-◌}
use mathlib.Core.Path.{ap}
use native.Mathlib.Omega.{arith}
use Rattle.rows.specs.Rows.{lit}
use Rattle.stencil.specs.Stencil.{points_of}
use Rattle.rows.proofs.Shifts.{word_read, word_last, word_on, word_or, word_same}
use Rattle.stencil.proofs.words.points_word.Goals as goal

pub returns : goal.returns
unfolding points_of
returns c =
    let a = c.args in
    let s = a.cells.now.up in
    let t = a.cells.now.down in
    let up_here = word_read s a.w c.word-up_here.ensures in
    let up-last = word_last {w = a.w} (omega arith) (word_read s (a.w - 5) c.word-up_last.ensures) in
    let up_on = word_on (omega arith) c.one_on-up_on.ensures up_here (word_read s (a.w - 1) c.word.ensures) in
    let down_last = word_last {w = a.w} (omega arith) (word_read t (a.w - 5) c.word-down_last.ensures) in
    let down_here = word_read t a.w c.word-2.ensures in
    let down-on = word_on (omega arith) c.one_on-down_on.ensures down_here (word_read t (a.w - 1) c.word-3.ensures) in
    let before = word_last {w = a.w - 1} (omega arith) (word_read t (a.w - 6) c.word-4.ensures) in
    let both = word_on (omega arith) c.one_on-both.ensures down_last before in
    let downs = word_or down_last (word_or down-on (word_same {Q = λ i. lit t (i - 321)} (λ i h. ap (lit t) (omega arith)) both)) in
    word_or up_here (word_or up-last (word_or up_on downs))
