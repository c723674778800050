-- `near_up` meets its contract: the word of the down cells, the one a row back and the one a place back, joined. Assumes nothing.
use Prim.Native.Nat.{◌+◌, ◌-◌}
use mathlib.Core.Path.{◌≡◌, refl}
use native.Mathlib.Omega.{arith}
use Rattle.rows.proofs.Shifts.{word_read, word_last, word_on, word_or}
use Rattle.flood.specs.inside.Turns.{near_up}
use Rattle.flood.proofs.words.near_up.Goals as goal

pub returns : goal.returns
unfolding near_up
returns c =
    let at = c.args.word.at in
    let five : at ≡ at - 5 + 5 = omega arith in
    let one : at ≡ at - 1 + 1 = omega arith in
    let d = c.args.down.now in
    let here = word_read d at refl in
    let on = word_on one c.one_on.ensures here (word_read d (at - 1) refl) in
    word_or here (word_or (word_last five (word_read d (at - 5) refl)) on)
