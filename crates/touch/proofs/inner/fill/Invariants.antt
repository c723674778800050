use Prim.Native.Nat.{ℕ, ◌<◌}
use mathlib.Core.Path.{◌≡◌}
use lib.ListN.{length, get_or}
use Rattle.touch.specs.inside.Inner.{inner_cell}
use Rattle.touch.proofs.inner.fill.Given as goal

abbrev pub invariant-loop-i : goal.invariant-loop-i
invariant-loop-i l = (length l.found ≡ 12) × ((j : ℕ) → j < l.i → get_or l.found j 0 ≡ inner_cell l.site.level.k l.site.place j)
