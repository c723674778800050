-- `descend` meets its contract: its bits are those of the triangle that the digits lead to. Assumes nothing.
use Prim.Native.Nat.{ℕ, ◌*◌, ◌-◌, ◌/◌, ◌%◌, ◌^◌, ◌≤◌, ◌<◌}
use mathlib.Core.Path.{◌≡◌, sym, ap}
use native.Mathlib.Nat.{mod-lt}
use native.Mathlib.Omega.{arith}
use lib.Bits.{bit_or, bit_xor, xor_lt, and_lt, or_lt}
use lib.Pow.{pow_pos, ones_lt}
use Rattle.cell.specs.Cell.{Triangle, place, max_level}
use Rattle.cell.proofs.Laws.{shifted, shift_four}
use Rattle.cell.proofs.TriangleBits.{kind_at, triangle_bits_16}
use Rattle.cell.proofs.site.descend.Goals as goal
use Rattle.cell.proofs.site.descend.Goals.{After-odd_from-downs}

-- N as the code shifts it
side : (k : ℕ) → k ≤ max_level → 1 * 2 ^ k % 2 ^ 32 ≡ 2 ^ k
side k h = shifted 32 k (omega arith)

-- what the bits are made of fits the level's
bounds : (h l k : ℕ) → k ≤ max_level →
    let n = 1 * 2 ^ k % 2 ^ 32 in
    (n - 1 < 2 ^ k) × (h % n < 2 ^ k) × (l % n < 2 ^ k)
bounds h l k le = rw (side k le) (ones_lt k, mod-lt h (pow_pos k), mod-lt l (pow_pos k))

-- the place, by the bits as the code has them
led : (c : After-odd_from-downs) →
    let a = c.args in
    let n = 1 * 2 ^ a.level.k % 2 ^ 32 in
    let h = c.split-halves.result.high % n in
    let l = c.split-halves.result.low % n in
    let d = c.odd_from-downs.result in
    place a.level.k a.cell ≡ (a.cell / 2 ^ (2 * a.level.k), kind_at (d % 2) (bit_xor (bit_xor (n - 1) h) d) (bit_xor (bit_xor (n - 1) l) (bit_or h d)))
unfolding place
led c =
    let k = c.args.level.k in
    let n = c.args.cell in
    let e = side k c.args.level.bounded in
    let h = c.split-halves.ensures.0 in
    let l = c.split-halves.ensures.1 in
    let x = bounds c.split-halves.result.high c.split-halves.result.low k c.args.level.bounded in
    let d = c.odd_from-downs.ensures k (omega arith) (search (xor_lt k, and_lt k, or_lt k)) in
    rw (shift_four k, d, e, h, l) (ap (λ (g : Triangle). (n / 4 ^ k, g)) (triangle_bits_16 k n (omega arith)))

pub returns-then-downs-eq0 : goal.returns-then-downs-eq0
returns-then-downs-eq0 c = sym (rw c.if-downs-eq0.true at (led (goal.at.returns-then-downs-eq0 c).After-odd_from-downs))

pub returns-else-downs-eq0 : goal.returns-else-downs-eq0
returns-else-downs-eq0 c =
    let odd : c.odd_from-downs.result % 2 ≡ 1 = omega arith in
    sym (rw odd at (led (goal.at.returns-else-downs-eq0 c).After-odd_from-downs))
