use Prim.Native.Nat.{◌+◌}
use mathlib.Core.Bool.{false, cond}
use mathlib.Core.Path.{◌≡◌}
use Rattle.flood.specs.Flood.{lit_of, Near, Closed, Added}
use Rattle.flood.proofs.Left.{unset}
use Rattle.flood.proofs.flood.Given as goal

abbrev pub invariant-loop-changed : goal.invariant-loop-changed
invariant-loop-changed l =
    Added (Near l.level.k) l.opened.up l.opened.down l.initial.reached.up l.initial.reached.down l.reached.up l.reached.down × (l.changed ≡ false → Closed (Near l.level.k) l.opened.up l.opened.down (lit_of l.reached.up l.reached.down))

abbrev pub decreases-loop-changed : goal.decreases-loop-changed
decreases-loop-changed l = cond l.changed (unset l.reached.up l.reached.down + 1) 0
