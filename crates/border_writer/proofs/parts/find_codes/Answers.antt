-- `find_codes` meets its contract. The invariant: the codes between the first i + 1 cells are found. Assumes nothing.
use native.Mathlib.Omega.{arith}
use Rattle.std.proofs.Common.{rules}
use Rattle.border_writer.proofs.Writing.{none_joined, one_joined, not_joined, all_joined}
use Rattle.border_writer.proofs.parts.find_codes.Goals as goal

pub loop-i-init : goal.loop-i-init
loop-i-init c = none_joined _ _ _ c.requires.0

pub returns-in_err-codes-clause-steps : goal.returns-in_err-codes-clause-steps
returns-in_err-codes-clause-steps c =
    search (rules, not_joined _ _ _ _ c.loop-i.invariant (omega arith) _ c.args.level.bounded c.requires.1 c.in_err-codes.ensures)

pub loop-i-preserved : goal.loop-i-preserved
loop-i-preserved c = one_joined _ _ _ _ c.loop-i.invariant (omega arith) _ c.in_ok-codes.ensures

pub returns-clause-steps : goal.returns-clause-steps
returns-clause-steps c = rw (all_joined _ _ _ _ c.loop-i.invariant (omega arith))

pub returns-clause-codes : goal.returns-clause-codes
returns-clause-codes c = rw (all_joined _ _ _ _ c.loop-i.invariant (omega arith))
