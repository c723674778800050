-- `ring` meets its contract: what is near the points, joined at the seams. Assumes nothing.
use Rattle.rows.specs.Rows.{lit}
use Rattle.dilate.proofs.Rings.{ring_clear, ring_spreads}
use Rattle.dilate.proofs.ring.Goals as goal

pub returns : goal.returns
returns c =
    let h = c.requires in
    let a = c.args in
    let near = c.near.ensures in
    let join = c.join_seams.ensures in
    let P = lit a.points.now in
    let N = lit a.next.now in
    let W = lit a.within.now in
    record { spreads = ring_spreads a.level.k a.level.bounded P N W _ _ near join h.1 h.0; clear = ring_clear a.level.k a.level.bounded P N W _ _ near join h.1 }
