use Rattle.border_writer.proofs.Writing.{Joined}
use Rattle.border_writer.proofs.parts.find_codes.Given as goal

abbrev pub invariant-loop-i : goal.invariant-loop-i
invariant-loop-i l = Joined l.level.k l.cells l.codes l.i
