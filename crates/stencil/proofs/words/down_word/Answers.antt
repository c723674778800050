-- `down_word` meets its contract: the word of the next row, one place back, and both, joined. Assumes nothing.
use Prim.Native.Nat.{◌+◌}
use mathlib.Core.Path.{refl, ap}
use native.Mathlib.Omega.{arith}
use Rattle.rows.specs.Rows.{lit}
use Rattle.stencil.specs.Stencil.{down_of}
use Rattle.rows.proofs.Shifts.{word_read, word_next, word_back, word_or, word_same}
use Rattle.stencil.proofs.words.down_word.Goals as goal

pub returns : goal.returns
unfolding down_of
returns c =
    let a = c.args in
    let s = a.points.now in
    let next = word_next {w = a.cells.at} refl (word_read s (a.cells.at + 5) c.word-next.ensures) in
    let here = word_read s a.cells.at c.word.ensures in
    let back = word_back refl c.one_back-back.ensures here (word_read s (a.cells.at + 1) c.word-2.ensures) in
    let both = word_back refl c.one_back-both.ensures next (word_next (omega arith) (word_read s (a.cells.at + 6) c.word-3.ensures)) in
    word_or next (word_or back (word_same (λ i h. ap (lit s) (omega arith)) both))
