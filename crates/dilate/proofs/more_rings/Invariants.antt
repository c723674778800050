use Prim.Native.Nat.{ℕ, ◌+◌}
use mathlib.Core.Path.{◌≡◌}
use mathlib.Core.Bool.{Bool, false}
use Rattle.rows.specs.Rows.{lit}
use Rattle.stencil.specs.Stencil.{in_rows}
use Rattle.spread.specs.Spread.{Points}
use Rattle.dilate.specs.Dilate.{grown_cells}
use Rattle.dilate.proofs.more_rings.Given as goal

abbrev pub invariant-loop-pair : goal.invariant-loop-pair
invariant-loop-pair l =
    ((A : ℕ → Bool) → Points l.level.k (lit l.initial.points) A → Points l.level.k (lit l.points) (grown_cells l.level.k (l._pair + l._pair) A))
    × ((i : ℕ) → in_rows i ≡ false → lit l.points i ≡ false)
    × ((i : ℕ) → in_rows i ≡ false → lit l.next i ≡ false)
