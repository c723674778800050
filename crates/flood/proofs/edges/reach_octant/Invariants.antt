use Prim.Native.Nat.{ℕ}
use mathlib.Core.List.{List}
use Rattle.flood.specs.Flood.{EdgesOf}
use Rattle.flood.specs.inside.Turns.{Turn}
use Rattle.flood.proofs.edges.reach_octant.Given as goal

abbrev pub invariant-loop-n : goal.invariant-loop-n
invariant-loop-n l = (od d : List ℕ) → Turn (EdgesOf l.level.k l.octant l.n) l.open_up od l.initial.up d l.up d l.changed
