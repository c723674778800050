-- `near_word` meets its contract: a row with the next, here and one place on, and with the last, here and one place back. Assumes nothing.
use Prim.Native.Nat.{◌+◌, ◌-◌}
use mathlib.Core.Path.{refl}
use native.Mathlib.Omega.{arith}
use Rattle.rows.specs.Rows.{lit}
use Rattle.rows.proofs.Shifts.{word_read, word_next, word_last, word_on, word_back, word_or, word_same}
use Rattle.stencil.proofs.Seven.{near_joined}
use Rattle.stencil.proofs.words.near_word.Goals as goal

pub returns : goal.returns
returns c =
    let a = c.args in
    let s = a.points.now in
    let here = word_read s a.w c.word-here.ensures in
    let next = word_or here (word_next refl (word_read s (a.w + 5) c.word.ensures)) in
    let before = word_or (word_read s (a.w - 1) c.word-2.ensures) (word_next (omega arith) (word_read s (a.w + 4) c.word-3.ensures)) in
    let on = word_on (omega arith) c.one_on-on.ensures next before in
    let last = word_or here (word_last (omega arith) (word_read s (a.w - 5) c.word-4.ensures)) in
    let after = word_or (word_read s (a.w + 1) c.word-5.ensures) (word_last (omega arith) (word_read s (a.w - 4) c.word-6.ensures)) in
    let back = word_back refl c.one_back-back.ensures last after in
    word_same (λ i h. near_joined (lit s) i (omega arith)) (word_or (word_or next on) (word_or last back))
