use Prim.Native.Nat.{ℕ}
use mathlib.Core.List.{List}
use Rattle.flood.specs.Flood.{Over}
use Rattle.flood.specs.inside.Turns.{Turn}
use Rattle.flood.proofs.edges.reach_over.Given as goal

abbrev pub invariant-loop-octant : goal.invariant-loop-octant
invariant-loop-octant l = (od d : List ℕ) → Turn (Over l.level.k l.octant) l.open_up od l.initial.up d l.up d l.changed
