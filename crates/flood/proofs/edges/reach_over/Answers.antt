-- `reach_over` meets its contract. The invariant: the edges of the octants before this one are passed. Assumes nothing.
use Prim.Native.Nat.{ℕ, ◌^◌}
use mathlib.Core.Path.{◌≡◌, subst}
use native.Mathlib.Omega.{arith}
use Rattle.flood.specs.Flood.{EdgesOf, Over}
use Rattle.flood.specs.inside.Turns.{Turn}
use Rattle.flood.proofs.Crossing.{turn_next}
use Rattle.flood.proofs.edges.reach_over.Goals as goal

pub loop-octant-preserved : goal.loop-octant-preserved
loop-octant-preserved c =
    let l = c.loop-octant in
    let k = c.args.level.k in
    λ od d. turn_next (λ o. EdgesOf k o (2 ^ k)) l.octant (l.invariant od d) (c.reach_octant-changed.ensures od d)

pub returns : goal.returns
returns c od d =
    let l = c.loop-octant in
    let a = c.args in
    let all : l.octant ≡ 8 = omega arith in
    subst (λ (m : ℕ). Turn (Over a.level.k m) a.open_up.now od a.up.now d l.up d l.changed) all (l.invariant od d)
