-- `flood` meets its contract. The invariant: spots are added, none wrongly, and after a round that changed nothing the set is closed.
-- The measure is the spots not yet set, while there is a round to go. Assumes nothing.
use native.Mathlib.Omega.{arith}
use Rattle.cell.proofs.Answers.{given_level}
use Rattle.flood.proofs.Turns.{added_more, turn_closed}
use Rattle.flood.proofs.Left.{rounds_less}
use Rattle.flood.proofs.flood.Goals as goal

pub loop-changed-smaller : goal.loop-changed-smaller
loop-changed-smaller c =
    rw c.loop-changed-test.true (rounds_less c.go_round-changed.ensures)

pub loop-changed-preserved : goal.loop-changed-preserved
loop-changed-preserved c =
    let r = c.go_round-changed.ensures in
    (added_more c.loop-changed.invariant.0 r.added, turn_closed r)

pub returns : goal.returns
returns c =
    let l = c.loop-changed in
    let k = c.in-Ok.level in
    let g = given_level _ _ _ c.in-Ok.ensures in
    rw g.1 (record {
      added = l.invariant.0;
      closed = λ h. l.invariant.1 c.loop-changed-test.false;
      past = λ h. absurd (omega (arith, k.bounded));
    })
