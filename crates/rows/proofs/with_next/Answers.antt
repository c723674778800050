-- `with_next` meets its contract: the word here, of the next row and one place back, joined. Assumes nothing.
use Prim.Native.Nat.{◌+◌}
use mathlib.Core.Path.{refl}
use Rattle.rows.specs.Words.{with_next}
use Rattle.rows.proofs.Shifts.{word_read, word_next, word_back, word_or}
use Rattle.rows.proofs.with_next.Goals as goal

pub returns : goal.returns
unfolding with_next
returns c =
    let a = c.args in
    let s = a.rows.now in
    let here = word_read s a.word.at refl in
    let next = word_next refl (word_read s (a.word.at + 5) refl) in
    let back = word_back refl c.one_back-back.ensures here (word_read s (a.word.at + 1) refl) in
    word_or here (word_or next back)
