-- Signed numbers of 32 bits, as the code reads, turns and adds them. Everything past these facts is about natural numbers.
-- Assumes nothing.
use Prim.Native.Nat.{ℕ, zero, suc, ◌*◌, ◌^◌, ◌<◌}
use mathlib.Core.Path.{◌≡◌, refl, ap}
use mathlib.Core.Bool.{false}
use native.Mathlib.Omega.{arith}
use lib.IntN.{ℤ, pos, negsuc, neg_ℤ, ◌-ℤ◌}
use lib.Signed.{mag}
use mir.Syntax.{w32}
use mir.Val.{to_z, of_z}
use mir.ValLaws.{to_z-of_z}
use borrow.Author.Tests.{lt-ltb, leb-false}
use Rattle.position.specs.Position.{q, longitude_out}

-- the bits of a number that fits are that number
pub same_number : (z : ℤ) → mag z < 2 ^ 31 → to_z w32 (of_z w32 z) ≡ z
same_number z h = to_z-of_z w32 z (record { sfits = h })

-- and a number that is not negative is cast as it is
pub cast-number : {n : ℕ} (z : ℤ) → z ≡ pos n → n < 2 ^ 31 → to_z w32 (of_z w32 z) ≡ pos n
cast-number {n} z e h = rw e (same_number (pos n) h)

-- a size in the south
pub minus : (p : ℕ) → pos 0 -ℤ pos p ≡ neg_ℤ (pos p)
minus zero = refl
minus (suc n) = rw (lt-ltb 0 (suc n) (omega arith)) (ap negsuc (omega arith))

-- a longitude in range fits
pub inside_fits : (z : ℤ) → longitude_out z ≡ false → mag z < 2 ^ 31
inside_fits (pos n) h = omega (arith, leb-false (2 * q) n h)
inside_fits (negsuc n) h = omega (arith, leb-false (2 * q) n h)
