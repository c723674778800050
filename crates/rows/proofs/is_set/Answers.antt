-- `is_set` meets its contract: the word and the bit are those of the definition, and past the end there is neither. Assumes nothing.
use mathlib.Core.Path.{sym}
use native.Mathlib.Omega.{arith}
use Rattle.bitset.specs.Bits.{bit}
use Rattle.rows.specs.Rows.{lit}
use Rattle.rows.proofs.Words.{lit_past}
use Rattle.rows.proofs.is_set.Goals as goal

pub returns-in-Some : goal.returns-in-Some
unfolding lit bit
returns-in-Some c = rw (c.in-Some.ensures.lookup.3.1 0)

pub returns-in-None : goal.returns-in-None
returns-in-None c = sym (lit_past c.args.rows.now c.args.spot (omega (arith, c.in-None.ensures.lookup.3)))
