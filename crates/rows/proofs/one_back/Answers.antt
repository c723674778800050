-- `one_back` meets its contract, by the bits of its two shifts. Assumes nothing.
use native.Mathlib.Omega.{arith}
use Rattle.rows.proofs.Shifts.{back_bits}
use Rattle.rows.proofs.one_back.Goals as goal

pub returns : goal.returns
returns c = back_bits c.args.word c.args.after (omega arith)
