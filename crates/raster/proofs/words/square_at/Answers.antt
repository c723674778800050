-- `square_at` meets its contract. The invariant: the first `x` rows are read. Assumes nothing.
use Prim.Native.Nat.{ℕ, ◌+◌, ◌*◌, ◌/◌, ◌%◌, ◌<◌}
use mathlib.Core.Path.{◌≡◌, ap, ◌∙◌}
use mathlib.Core.Bool.{Bool}
use native.Mathlib.Omega.{arith}
use Rattle.bitset.specs.Bits.{bit}
use Rattle.rows.specs.Rows.{lit}
use Rattle.raster.proofs.Joined.{bits_none, bits_more}
use Rattle.raster.proofs.words.square_at.Goals as goal

pub loop-x-init : goal.loop-x-init
loop-x-init c = let a = c.args in bits_none (λ p. lit a.words.now (8 * (a.slot.byte + 40 * (p / 8)) + p % 8))

pub loop-x-preserved : goal.loop-x-preserved
loop-x-preserved c =
    let a = c.args in
    let l = c.loop-x in
    let b = c.byte_at in
    let F : ℕ → Bool = λ p. lit a.words.now (8 * (a.slot.byte + 40 * (p / 8)) + p % 8) in
    let at : (r : ℕ) → r < 8 → bit b.result r ≡ F (8 * l.x + r) = λ r h.
    let e : 8 * (a.slot.byte + 40 * l.x) + r ≡ 8 * (a.slot.byte + 40 * ((8 * l.x + r) / 8)) + (8 * l.x + r) % 8 = omega arith in
    b.ensures.bits r h ∙ ap (lit a.words.now) e in
    bits_more F l.x l.square b.result (omega arith) b.ensures.small l.invariant at
