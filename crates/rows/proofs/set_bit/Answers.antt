-- `set_bit` meets its contract: the word of the bit is joined with it, and past the end there is none. Assumes nothing.
use mathlib.Core.Path.{sym, ◌∙◌}
use native.Mathlib.Omega.{arith}
use Rattle.rows.proofs.Words.{lit_one, set_here}
use Rattle.rows.specs.Rows.{lit}
use Rattle.rows.proofs.set_bit.Goals as goal

pub returns-then-at-lt-WORDS : goal.returns-then-at-lt-WORDS
returns-then-at-lt-WORDS c i =
    let a = c.args in
    lit_one a.rows.now a.spot i (omega arith) ∙ sym (set_here (lit a.rows.now i) i a.spot (omega arith))
