use Rattle.varint.proofs.Groups.{Filled}
use Rattle.varint.proofs.write_groups.Given as goal

abbrev pub invariant-loop-byte : goal.invariant-loop-byte
invariant-loop-byte l = Filled l.n l.rest l.byte-index l.out
