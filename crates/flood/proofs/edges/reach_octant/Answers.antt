-- `reach_octant` meets its contract. The invariant: the edges in the rows and columns before n are passed. Assumes nothing.
use Prim.Native.Nat.{ℕ, ◌*◌, ◌%◌, ◌^◌}
use mathlib.Core.Path.{◌≡◌, subst}
use native.Mathlib.Omega.{arith}
use Rattle.rows.proofs.Spots.{size_shifted}
use Rattle.flood.specs.Flood.{Edges, EdgesOf}
use Rattle.flood.specs.inside.Turns.{Turn}
use Rattle.flood.proofs.Crossing.{turn_next}
use Rattle.flood.proofs.edges.reach_octant.Goals as goal
use Rattle.flood.proofs.edges.reach_octant.Goals.{Start}

-- N as the code shifts it, and that it is small
size : (e : Start) → 1 * 2 ^ e.args.level.k % 2 ^ 32 ≡ 2 ^ e.args.level.k
size e = size_shifted e.args.level.k e.args.level.bounded

pub loop-n-preserved : goal.loop-n-preserved
loop-n-preserved c =
    let l = c.loop-n in
    let a = c.args in
    λ od d. turn_next (Edges a.level.k a.octant) l.n (l.invariant od d) (c.reach_edges-changed.ensures od d)

pub returns : goal.returns
returns c od d =
    let l = c.loop-n in
    let a = c.args in
    let all : l.n ≡ 2 ^ a.level.k = omega (arith, size (goal.at.returns c).Start) in
    subst (λ (m : ℕ). Turn (EdgesOf a.level.k a.octant m) a.open_up.now od a.up.now d l.up d l.changed) all (l.invariant od d)
