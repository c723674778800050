-- `reach_pair` meets its contract: one step, and then the step back. Assumes nothing.
use Rattle.flood.proofs.Crossing.{turn_pair}
use Rattle.flood.proofs.edges.reach_pair.Goals as goal

pub returns : goal.returns
returns c od d = turn_pair (c.reach_one-there.ensures od d) (c.reach_one-back.ensures od d)
