use Prim.Native.Nat.{ℕ}
use mathlib.Core.Path.{◌≡◌}
use mathlib.Core.Bool.{◌||◌}
use Rattle.rows.specs.Rows.{lit}
use Rattle.raster.specs.inside.Squares.{in_square}
use Rattle.raster.proofs.words.join_square.Given as goal

abbrev pub invariant-loop-x : goal.invariant-loop-x
invariant-loop-x l = (i : ℕ) → lit l.words i ≡ (lit l.initial.words i || in_square l.x l.slot.byte l.square i)
