use Rattle.flood.specs.Flood.{Added}
use Rattle.flood.specs.inside.Turns.{Into}
use Rattle.flood.proofs.words.settle_word.Given as goal

abbrev pub invariant-loop : goal.invariant-loop
invariant-loop l = Added (Into l.word.at) l.opened.up l.opened.down l.initial.reached.up l.initial.reached.down l.reached.up l.reached.down
