-- `one_on` meets its contract, by the bits of its two shifts. Assumes nothing.
use native.Mathlib.Omega.{arith}
use Rattle.rows.proofs.Shifts.{on_bits}
use Rattle.rows.proofs.one_on.Goals as goal

pub returns : goal.returns
returns c = on_bits c.args.word c.args.before (omega arith)
