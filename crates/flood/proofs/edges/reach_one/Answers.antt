-- `reach_one` meets its contract: where the first spot is set, the word of the second is joined with its bit. Assumes nothing.
use mathlib.Core.Path.{sym, ◌∙◌}
use Rattle.flood.proofs.Crossing.{turn_one}
use Rattle.flood.proofs.edges.reach_one.Goals as goal

pub returns-then-is_set : goal.returns-then-is_set
returns-then-is_set c od d =
    turn_one od d (sym c.is_set.ensures ∙ c.if-is_set.true) c.join_word.ensures
