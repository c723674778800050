use Rattle.varint.proofs.Groups.{Reading}
use Rattle.varint.proofs.read_groups.Given as goal

abbrev pub invariant-loop-before : goal.invariant-loop-before
invariant-loop-before l = Reading l.bytes l.value l.unit l.before
