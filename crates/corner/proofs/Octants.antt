-- The octants' table of a point's first two numbers, read case by case. Assumes nothing.
use Prim.Native.Nat.{ℕ, ◌+◌, ◌%◌, ◌<◌}
use mathlib.Core.Path.{◌≡◌, refl}
use mathlib.Core.Bool.{true, false, cond}
use native.Mathlib.Omega.{arith}
use lib.ListN.{get_or}
use Rattle.cell.proofs.Laws.{digit_cases}
use Rattle.corner.specs.Corner.{quarters, equatorial, side_of, first_of}

module _ {A : Type 0} (plus minus : ℕ → A) (l r : ℕ) where
  -- what holds of each of the four entries holds of the entry of each octant
  pub octant-cases :
      (P : ℕ → A × A → Type 0)
      → P 0 (plus l, plus r) → P 1 (minus r, plus l) → P 2 (minus l, minus r) → P 3 (plus r, minus l)
      → (o : ℕ) → P (o % 4) (equatorial plus minus o l r)
  unfolding equatorial
  octant-cases P p0 p1 p2 p3 o = digit_cases (λ (i : ℕ). P i (get_or (quarters plus minus l r) i (plus l, plus r))) p0 p1 p2 p3 (o % 4) (omega arith)

  -- the first of the two numbers is what its side tells
  pub first_signed : (o : ℕ) → cond (first_of o l r).negative (minus (first_of o l r).base) (plus (first_of o l r).base) ≡ (equatorial plus minus o l r).0
  unfolding equatorial
  first_signed o = digit_cases
      (λ (i : ℕ).
      let f = (get_or (quarters (side_of false) (side_of true) l r) i (side_of false l, side_of false r)).0 in
      cond f.negative (minus f.base) (plus f.base) ≡ (get_or (quarters plus minus l r) i (plus l, plus r)).0)
      refl refl refl refl (o % 4) (omega arith)

  -- the second of the two numbers is the first in the octant three on
  pub second_first : (o : ℕ) → (equatorial plus minus (o + 3) l r).0 ≡ (equatorial plus minus o l r).1
  unfolding equatorial
  second_first o = let e : (o + 3) % 4 ≡ (o % 4 + 3) % 4 = omega arith in rw e (go (o % 4) (omega arith))
    where
      entry : ℕ → A × A
      entry i = get_or (quarters plus minus l r) i (plus l, plus r)

      go : (i : ℕ) → i < 4 → (entry ((i + 3) % 4)).0 ≡ (entry i).1
      go = digit_cases (λ (i : ℕ). (entry ((i + 3) % 4)).0 ≡ (entry i).1) refl refl refl refl

-- its size is that of L or R
pub first_below : (o l r b : ℕ) → l < b → r < b → (first_of o l r).base < b
first_below o l r b hl hr = octant-cases (side_of false) (side_of true) l r (λ i q. q.0.base < b) hl hr hl hr o
