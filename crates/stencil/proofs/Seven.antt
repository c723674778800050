-- The seven points of `near_of`, as the code joins them. Assumes nothing.
use Prim.Native.Nat.{ℕ, ◌+◌, ◌-◌, ◌≤◌}
use mathlib.Core.Path.{◌≡◌, refl}
use mathlib.Core.Bool.{Bool, true, false, ◌||◌, or-true}
use native.Mathlib.Omega.{arith}
use Rattle.stencil.specs.Stencil.{near_of}

seven : (p u m n o b c : Bool) → (((p || n) || (m || o)) || ((p || b) || (u || c))) ≡ (p || (u || (m || (n || (o || (b || c))))))
seven true u m n o b c = refl
seven false true m n o b c = rw (or-true b) (or-true (n || (m || o)))
seven false false true n o b c = rw (or-true n)
seven false false false true o b c = refl
seven false false false false o b c = refl

-- a set with its next row, here and one place on, and with its last row, here and one place back
pub near_joined : (P : ℕ → Bool) (i : ℕ) → 1 ≤ i →
    (((P i || P (i + 320)) || (P (i - 1) || P (i - 1 + 320))) || ((P i || P (i - 320)) || (P (i + 1) || P (i + 1 - 320)))) ≡ near_of P i
unfolding near_of
near_joined P i h =
    let q : i - 1 + 320 ≡ i + 319 = omega arith in
    let r : i + 1 - 320 ≡ i - 319 = omega arith in
    rw (q, r) (seven (P i) (P (i + 1)) (P (i - 1)) (P (i + 320)) (P (i + 319)) (P (i - 320)) (P (i - 319)))
