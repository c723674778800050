use Rattle.border_reader.proofs.Reading.{Walked}
use Rattle.border_reader.proofs.walking.walk.Given as goal

abbrev pub invariant-loop-i : goal.invariant-loop-i
invariant-loop-i l = Walked l.header.level.k l.header.start l.header.count l.codes l.met l.i
