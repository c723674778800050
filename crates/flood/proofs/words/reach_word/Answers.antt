-- `reach_word` meets its contract: the down cells of the word are joined, and then the up cells. Assumes nothing.
use Rattle.rows.specs.Words.{with_next}
use Rattle.flood.specs.inside.Turns.{near_down}
use Rattle.flood.proofs.Joining.{turn_word}
use Rattle.flood.proofs.words.reach_word.Goals as goal

pub returns : goal.returns
unfolding near_down with_next
returns c =
    turn_word c.args.word.first c.with_next.ensures c.join_word-downs.ensures c.near_up.ensures c.join_word-ups.ensures
