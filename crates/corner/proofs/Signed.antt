-- Signed numbers as the code holds them, and compared. Assumes nothing.
use Prim.Native.Nat.{ℕ, zero, suc, ◌<◌, ◌^◌}
use mathlib.Core.Path.{◌≡◌, refl, ap, ◌∙◌}
use mathlib.Core.Bool.{Bool, true, false, cond}
use native.Mathlib.Omega.{arith}
use borrow.Author.Tests.{eq-eqb, eqb-true}
use lib.IntN.{ℤ, pos, negsuc}
use mir.Syntax.{w32}
use mir.Val.{SFits, of_z, to_z}
use mir.Facts.{to_z-of_z}
use Rattle.refusal.proofs.Tests.{clash}
use Rattle.corner.specs.declared.Side.{Side}
use Rattle.corner.specs.Corner.{minus, equatorial, first_of, same_number}
use Rattle.corner.proofs.Octants.{first_signed, first_below}

-- ---- a number with its sign

pub signed_fits : (b : Bool) (n : ℕ) → n < 2 ^ 31 → SFits w32 (cond b (minus n) (pos n))
signed_fits false n h = record { sfits = h }
signed_fits true zero h = record { sfits = h }
signed_fits true (suc n) h = record { sfits = omega arith }

-- what a call returns is read back from its bits
pub held : (b : Bool) (n : ℕ) → n < 2 ^ 31 → (z : ℤ) → z ≡ cond b (minus n) (pos n) → to_z w32 (of_z w32 z) ≡ cond b (minus n) (pos n)
held b n h z e = rw e (to_z-of_z (signed_fits b n h))

-- so is the first number of a point of an octant
pub held_first : (o l r : ℕ) → l < 2 ^ 31 → r < 2 ^ 31 → (x : Side) → x ≡ first_of o l r → (z : ℤ) → z ≡ cond x.negative (minus x.base) (pos x.base) →
    to_z w32 (of_z w32 z) ≡ (equatorial pos minus o l r).0
held_first o l r hl hr x e z d =
    let f = first_of o l r in
    held f.negative f.base (first_below o l r (2 ^ 31) hl hr) z (rw e at d) ∙ first_signed pos minus l r o

-- ---- two numbers are the same exactly when `same_number` says so

pub same_refl : (a : ℤ) → same_number a a ≡ true
unfolding same_number
same_refl (pos a) = eq-eqb a a refl
same_refl (negsuc a) = eq-eqb a a refl

pub same_eq : (a b : ℤ) → same_number a b ≡ true → a ≡ b
unfolding same_number
same_eq (pos a) (pos b) e = ap pos (eqb-true a b e)
same_eq (pos a) (negsuc b) e = clash e refl
same_eq (negsuc a) (pos b) e = clash e refl
same_eq (negsuc a) (negsuc b) e = ap negsuc (eqb-true a b e)
