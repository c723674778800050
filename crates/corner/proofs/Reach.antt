-- How far a cell reaches in its octant, by its kind. Assumes nothing.
use Prim.Native.Nat.{ℕ, ◌+◌, ◌^◌, ◌≤◌}
use mathlib.Core.Path.{◌≡◌}
use lib.Pow.{pow_mono}
use Rattle.cell.specs.Cell.{span, triangle_of, max_level}
use Rattle.cell.specs.declared.Kind.{Kind}
use Rattle.cell.specs.declared.Kind.TheVariants.{Up, Down}

pub up_reach : (k : ℕ) (kind : Kind) (a b : ℕ) → kind ≡ Up → k ≤ max_level → span (triangle_of kind a b) ≤ 2 ^ k → (a + b + 1 ≤ 2 ^ k) × (2 ^ k ≤ 2 ^ max_level)
unfolding span
up_reach k kind a b e h l = (rw e at l, pow_mono {i = k} {j = max_level} h)

pub down_reach : (k : ℕ) (kind : Kind) (a b : ℕ) → kind ≡ Down → k ≤ max_level → span (triangle_of kind a b) ≤ 2 ^ k → (a + b + 2 ≤ 2 ^ k) × (2 ^ k ≤ 2 ^ max_level)
unfolding span
down_reach k kind a b e h l = (rw e at l, pow_mono {i = k} {j = max_level} h)
