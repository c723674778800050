use Rattle.flood.specs.Flood.{Within}
use Rattle.flood.specs.inside.Turns.{Turn}
use Rattle.flood.proofs.words.go_forward.Given as goal

abbrev pub invariant-loop-at : goal.invariant-loop-at
invariant-loop-at l = Turn (Within l.at) l.opened.up l.opened.down l.initial.reached.up l.initial.reached.down l.reached.up l.reached.down l.changed
