-- The byte and the bit are those of the definition, and past the end there is neither.
use mathlib.Core.Path.{sym}
use native.Mathlib.Omega.{arith}
use Rattle.bitset.specs.Bits.{bit, marked}
use Rattle.bitset.proofs.Laws.{marked_past}
use Rattle.bitset.proofs.is_marked.Goals as goal

pub returns-in-Some : goal.returns-in-Some
unfolding marked bit
returns-in-Some c = rw (c.in-Some.ensures.lookup.3.1 0)

pub returns-in-None : goal.returns-in-None
returns-in-None c = sym (marked_past c.args.mask.now c.args.cell (omega (arith, c.in-None.ensures.lookup.3)))
