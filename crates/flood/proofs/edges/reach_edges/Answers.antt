-- `reach_edges` meets its contract: the spots are those of the two edges. Assumes nothing.
use Rattle.flood.proofs.Crossing.{turn_edges}
use Rattle.flood.proofs.edges.reach_edges.Goals as goal

pub returns : goal.returns
returns c od d =
    let a = c.args in
    turn_edges a.level.k a.octant a.n c.east.result a.level.bounded c.requires.0 c.requires.1 c.east.ensures c.spot_of-east_cell.ensures c.spot_of.ensures c.spot_of-2.ensures c.spot_of-3.ensures
    (c.reach_pair-east.ensures od d) (c.reach_pair-equator.ensures od d)
