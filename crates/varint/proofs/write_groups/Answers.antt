-- `write_groups` meets its contract. Assumes nothing.
use native.Mathlib.Omega.{arith}
use Rattle.varint.proofs.Groups.{filled_last, filled_more}
use Rattle.varint.proofs.write_groups.Goals as goal
use Rattle.varint.proofs.write_groups.Goals.{then-rest-lt128, else-rest-lt128}

pub loop-byte-preserved : goal.loop-byte-preserved
loop-byte-preserved c = elim c.if-rest-lt128.branch [
  | then-rest-lt128 w ↦ rw w.byte-is (filled_last _ _ _ _ c.loop-byte.invariant (omega arith) (omega arith))
  | else-rest-lt128 w ↦ rw w.byte-is (filled_more _ _ _ _ c.loop-byte.invariant (omega arith) (omega arith))
]
