-- The corners of a triangle, as rows and columns and as points; and two corners of one triangle. Assumes nothing.
use Prim.Native.Nat.{ℕ, ◌+◌, ◌≤◌, ◌<◌}
use mathlib.Core.Path.{◌≡◌, refl, sym, ap₂}
use mathlib.Core.List.{[]}
use mathlib.Core.Logic.{inl, inr}
use native.Mathlib.Omega.{arith}
use lib.ListN.{get_or}
use Rattle.cell.specs.Cell.{Triangle, up, down, span}
use Rattle.corner.specs.Corner.{corner, triangle_corners}
use Rattle.corner.proofs.Common.{index_cases}
use Rattle.spread.specs.Spread.{HasCorner}

-- corner i of a triangle, of three
pub corner_at : (k o : ℕ) (f : Triangle) (i : ℕ) → i < 3 → (t : ℕ) × (r : ℕ) × HasCorner f t r × (get_or (triangle_corners k o f) i [] ≡ corner k o t r)
unfolding triangle_corners
corner_at k o (up a b) = index_cases _
    (a, b, inl (refl, refl), refl) (a + 1, b, inr (inl (refl, refl)), refl) (a, b + 1, inr (inr (refl, refl)), refl)
corner_at k o (down a b) = index_cases _
    (a + 1, b, inl (refl, refl), refl) (a, b + 1, inr (inl (refl, refl)), refl) (a + 1, b + 1, inr (inr (refl, refl)), refl)

-- which of the three a corner is
pub corner_index : (k o : ℕ) (f : Triangle) (t r : ℕ) → HasCorner f t r → (i : ℕ) × (i < 3) × (get_or (triangle_corners k o f) i [] ≡ corner k o t r)
unfolding triangle_corners
corner_index k o (up a b) t r (inl e) = (0, omega arith, sym (ap₂ (corner k o) e.0 e.1))
corner_index k o (up a b) t r (inr (inl e)) = (1, omega arith, sym (ap₂ (corner k o) e.0 e.1))
corner_index k o (up a b) t r (inr (inr e)) = (2, omega arith, sym (ap₂ (corner k o) e.0 e.1))
corner_index k o (down a b) t r (inl e) = (0, omega arith, sym (ap₂ (corner k o) e.0 e.1))
corner_index k o (down a b) t r (inr (inl e)) = (1, omega arith, sym (ap₂ (corner k o) e.0 e.1))
corner_index k o (down a b) t r (inr (inr e)) = (2, omega arith, sym (ap₂ (corner k o) e.0 e.1))

-- the corners of a triangle lie within what it spans
pub corner_within : (f : Triangle) (t r : ℕ) → HasCorner f t r → t + r ≤ span f
unfolding span
corner_within (up a b) t r (inl e) = omega arith
corner_within (up a b) t r (inr (inl e)) = omega arith
corner_within (up a b) t r (inr (inr e)) = omega arith
corner_within (down a b) t r (inl e) = omega arith
corner_within (down a b) t r (inr (inl e)) = omega arith
corner_within (down a b) t r (inr (inr e)) = omega arith
