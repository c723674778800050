-- `walk` meets its contract. The invariant: the first i codes are walked. Assumes nothing.
use native.Mathlib.Omega.{arith}
use Rattle.std.proofs.Common.{rules}
use Rattle.border_reader.proofs.Reading.{walk_goes_on, walk_stops, walk_ends}
use Rattle.border_reader.proofs.walking.walk.Goals as goal

pub returns-in_err-met-clause-steps : goal.returns-in_err-met-clause-steps
returns-in_err-met-clause-steps c =
    search (rules, walk_stops _ _ _ _ _ _ _ c.loop-i.invariant (omega arith) c.code_at.ensures _ c.args.header.level.bounded c.in_err-met.ensures)

pub loop-i-preserved : goal.loop-i-preserved
loop-i-preserved c = walk_goes_on _ _ _ _ _ _ _ c.loop-i.invariant (omega arith) c.code_at.ensures _ c.in_ok-met.ensures

pub returns-clause-steps : goal.returns-clause-steps
returns-clause-steps c = rw (walk_ends _ _ _ _ _ _ c.loop-i.invariant (omega (arith, c.loop-i.invariant.long)))

pub returns-clause-cells : goal.returns-clause-cells
returns-clause-cells c = rw (walk_ends _ _ _ _ _ _ c.loop-i.invariant (omega (arith, c.loop-i.invariant.long)))
