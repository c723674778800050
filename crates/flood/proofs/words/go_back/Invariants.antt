use Rattle.rows.specs.Rows.{cells_end}
use Rattle.flood.specs.Flood.{Within, Added}
use Rattle.flood.proofs.words.go_back.Given as goal

abbrev pub invariant-loop-at : goal.invariant-loop-at
invariant-loop-at l = Added (Within cells_end) l.opened.up l.opened.down l.initial.reached.up l.initial.reached.down l.reached.up l.reached.down
