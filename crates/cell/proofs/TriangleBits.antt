-- The triangle that a number's digits lead to, by the digits' high and low bits: one induction over the level, a digit at a time.
-- Assumes nothing.
use Prim.Native.Nat.{ℕ, zero, suc, ◌+◌, ◌*◌, ◌-◌, ◌/◌, ◌%◌, ◌^◌, ◌≤◌, ◌<◌}
use mathlib.Core.Path.{◌≡◌, refl, ap₂}
use native.Mathlib.Nat.{pow-suc}
use native.Mathlib.Omega.{arith}
use lib.Pow.{pow_pos}
use lib.Bits.{bit_or, bit_xor, or_block, xor_block, xor_lt, or_lt}
use Rattle.cell.specs.Cell.{Triangle, up, down, children, child, triangle}
use Rattle.cell.specs.inside.Bits.{recode, evens, ones, odd_from}
use Rattle.cell.proofs.Runs.{evens_cut}
use Rattle.cell.proofs.Laws.{bit_cases, digit_cases}

-- the triangle of a kind, 0 for up and 1 for down
abbrev pub kind_at : ℕ → ℕ → ℕ → Triangle
kind_at zero a b = up a b
kind_at (suc t) a b = down a b

-- the kind of child d of a cell of kind t
abbrev kind_of : ℕ → ℕ → ℕ
kind_of t d = (t + bit_xor 1 (bit_or (d / 2) (d % 2))) % 2

-- so the table of children has it
child_bits : (a b t : ℕ) → t < 2 → (d : ℕ) → d < 4 →
    let c = kind_of t d in
    child (kind_at t a b) d ≡ kind_at c (a * 2 + bit_xor (bit_xor 1 (d / 2)) c) (b * 2 + bit_xor (bit_xor 1 (d % 2)) (bit_or (d / 2) c))
unfolding child children
child_bits a b = bit_cases _
    (digit_cases _ (ap₂ down (omega arith) (omega arith)) (ap₂ up (omega arith) (omega arith)) (ap₂ up (omega arith) (omega arith)) (ap₂ up (omega arith) (omega arith)))
    (digit_cases _ (ap₂ up (omega arith) (omega arith)) (ap₂ down (omega arith) (omega arith)) (ap₂ down (omega arith) (omega arith)) (ap₂ down (omega arith) (omega arith)))

-- all bits of level k; which of n's k digits are 0; which cells on the way are down; and the bits of row and column
abbrev pub all : ℕ → ℕ
all k = 2 ^ k - 1

abbrev zeros : ℕ → ℕ → ℕ
zeros k n = bit_xor (all k) (bit_or (evens k (n / 2)) (evens k n))

abbrev downs : ℕ → ℕ → ℕ
downs k n = odd_from k (zeros k n)

abbrev row_bits : ℕ → ℕ → ℕ
row_bits k n = bit_xor (bit_xor (all k) (evens k (n / 2))) (downs k n)

abbrev col_bits : ℕ → ℕ → ℕ
col_bits k n = bit_xor (bit_xor (all k) (evens k n)) (bit_or (evens k (n / 2)) (downs k n))

-- one digit more
pub all_more : (k : ℕ) → all (suc k) ≡ all k * 2 + 1
all_more k = omega (arith, pow-suc 2 k, pow_pos k)

module _ (k n : ℕ) where
  -- the digit's high and low bit, whether it is 0, and the kind that it leads to
  abbrev high : ℕ
  high = n % 4 / 2

  abbrev low : ℕ
  low = n % 4 % 2

  abbrev none : ℕ
  none = bit_xor 1 (bit_or high low)

  abbrev kind : ℕ
  kind = kind_of (ones k (zeros k (n / 4)) % 2) (n % 4)

  high_small : high < 2 ^ 1
  high_small = omega arith

  low_small : low < 2 ^ 1
  low_small = omega arith

  none_small : none < 2 ^ 1
  none_small = xor_lt 1 1 (bit_or high low) (omega arith) (or_lt 1 high low high_small low_small)

  kind_small : kind < 2 ^ 1
  kind_small = omega arith

  high_more : evens (suc k) (n / 2) ≡ evens k (n / 4 / 2) * 2 + high
  unfolding recode
  high_more =
      let e : n / 2 / 4 ≡ n / 4 / 2 = omega arith in
      let d : n / 2 % 4 % 2 ≡ n % 4 / 2 = omega arith in
      rw (e, d)

  low_more : evens (suc k) n ≡ evens k (n / 4) * 2 + low
  unfolding recode
  low_more = refl

  zeros_more : zeros (suc k) n ≡ zeros k (n / 4) * 2 + none
  zeros_more =
      let h = evens k (n / 4 / 2) in
      let l = evens k (n / 4) in
      rw (all_more, high_more, low_more, or_block 1 h l high low high_small low_small)
      (xor_block 1 (all k) (bit_or h l) 1 (bit_or high low) (omega arith) (or_lt 1 high low high_small low_small))

  kind_more : ones (suc k) (zeros (suc k) n) % 2 ≡ kind
  unfolding recode
  kind_more = rw zeros_more (
      let z = zeros k (n / 4) in
      let q : (z * 2 + none) / 2 ≡ z = omega (arith, none_small) in
      let r : (z * 2 + none) % 2 ≡ none = omega (arith, none_small) in
      rw (q, r) (omega arith))

  downs_more : downs (suc k) n ≡ downs k (n / 4) * 2 + kind
  unfolding odd_from
  downs_more =
      let q : zeros (suc k) n / 2 ≡ zeros k (n / 4) = omega (arith, zeros_more, none_small) in
      rw (kind_more, q)

  row_more : row_bits (suc k) n ≡ row_bits k (n / 4) * 2 + bit_xor (bit_xor 1 high) kind
  row_more =
      let h = evens k (n / 4 / 2) in
      rw (downs_more, all_more, high_more, xor_block 1 (all k) h 1 high (omega arith) high_small)
      (xor_block 1 (bit_xor (all k) h) (downs k (n / 4)) (bit_xor 1 high) kind (xor_lt 1 1 high (omega arith) high_small) kind_small)

  col_more : col_bits (suc k) n ≡ col_bits k (n / 4) * 2 + bit_xor (bit_xor 1 low) (bit_or high kind)
  col_more =
      let h = evens k (n / 4 / 2) in
      let l = evens k (n / 4) in
      let c = downs k (n / 4) in
      rw (downs_more, all_more, high_more, low_more, xor_block 1 (all k) l 1 low (omega arith) low_small, or_block 1 h c high kind high_small kind_small)
      (xor_block 1 (bit_xor (all k) l) (bit_or h c) (bit_xor 1 low) (bit_or high kind) (xor_lt 1 1 low (omega arith) low_small) (or_lt 1 high kind high_small kind_small))

no_bits : (n : ℕ) → triangle 0 n ≡ kind_at (ones 0 (zeros 0 n) % 2) (row_bits 0 n) (col_bits 0 n)
unfolding triangle recode odd_from
no_bits n = refl

triangle_bits : (k n : ℕ) → triangle k n ≡ kind_at (ones k (zeros k n) % 2) (row_bits k n) (col_bits k n)
unfolding triangle
triangle_bits zero n = no_bits n
triangle_bits (suc k) n =
    rw (triangle_bits k (n / 4), kind_more k n, row_more k n, col_more k n)
    (child_bits (row_bits k (n / 4)) (col_bits k (n / 4)) (ones k (zeros k (n / 4)) % 2) (omega arith) (n % 4) (omega arith))

-- so with 16 bits to each number, and the kinds as they are counted from above
odd_lowest : (k x : ℕ) → odd_from k x % 2 ≡ ones k x % 2
unfolding recode odd_from
odd_lowest zero x = refl
odd_lowest (suc k) x = omega arith

pub triangle_bits_16 : (k n : ℕ) → k ≤ 16 →
    let h = evens 16 (n / 2) % 2 ^ k in
    let l = evens 16 n % 2 ^ k in
    let c = odd_from k (bit_xor (all k) (bit_or h l)) in
    triangle k n ≡ kind_at (c % 2) (bit_xor (bit_xor (all k) h) c) (bit_xor (bit_xor (all k) l) (bit_or h c))
triangle_bits_16 k n le = rw (evens_cut k 16 (n / 2) le, evens_cut k 16 n le, odd_lowest k (zeros k n)) (triangle_bits k n)
