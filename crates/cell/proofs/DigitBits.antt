-- The digits that lead to a triangle, their high and low bits by those of row, column and kind: one induction over the level,
-- a digit at a time. Assumes nothing.
use Prim.Native.Nat.{ℕ, zero, suc, ◌+◌, ◌*◌, ◌-◌, ◌/◌, ◌%◌, ◌^◌, ◌≤◌, ◌<◌}
use mathlib.Core.Path.{◌≡◌, refl, sym, ap, ap₂, ◌∙◌}
use native.Mathlib.Omega.{arith}
use lib.ListN.{get_or}
use lib.Pow.{ones_lt}
use lib.Bits.{bit_and, bit_xor, xor_shr, xor_mod, and_shr, and_mod, and_lt, xor_lt}
use Rattle.cell.specs.declared.Kind.{Kind}
use Rattle.cell.specs.declared.Kind.TheVariants.{Up, Down}
use Rattle.cell.specs.Cell.{triangle_of, row, col, span, parents, parities, as_child, digits}
use Rattle.cell.specs.inside.Bits.{recode, spread}
use Rattle.cell.proofs.Recode.{recode_more}
use Rattle.cell.proofs.Laws.{bit_cases}
use Rattle.cell.proofs.TriangleBits.{kind_at, all, all_more}

-- where the sum of row, column and kind differs from the column; and the digits' high and low bits
abbrev crossed : ℕ → ℕ → ℕ → ℕ
crossed t a b = bit_xor (a + b + t) b

abbrev high_bits : ℕ → ℕ → ℕ → ℕ → ℕ
high_bits k t a b = bit_xor (all k) (crossed t a b)

abbrev low_bits : ℕ → ℕ → ℕ → ℕ
low_bits t a b = bit_xor b (bit_and a (crossed t a b))

-- by the parities x and y of row and column and the kind t: the parent's kind, where the sum differs from the column, and the digit
abbrev carry : ℕ → ℕ → ℕ → ℕ
carry t x y = (x + y + t) / 2

abbrev turned : ℕ → ℕ → ℕ → ℕ
turned t x y = bit_xor ((x + y + t) % 2) y

abbrev digit : ℕ → ℕ → ℕ → ℕ
digit t x y = 2 * bit_xor 1 (turned t x y) + bit_xor y (bit_and x (turned t x y))

-- so the table of parents has it
entry : (a b t : ℕ) → t < 2 → (x : ℕ) → x < 2 → (y : ℕ) → y < 2 →
    get_or (parents (kind_at t a b)) (2 * x + y) (kind_at t a b, 0) ≡ (kind_at (carry t x y) (a / 2) (b / 2), digit t x y)
unfolding parents
entry a b = bit_cases _ (bit_cases _ (bit_cases _ refl refl) (bit_cases _ refl refl)) (bit_cases _ (bit_cases _ refl refl) (bit_cases _ refl refl))

parent_bits : (a b t : ℕ) → t < 2 → as_child (kind_at t a b) ≡ (kind_at (carry t (a % 2) (b % 2)) (a / 2) (b / 2), digit t (a % 2) (b % 2))
unfolding as_child parities row col
parent_bits a b = bit_cases _
    (entry a b 0 (omega arith) (a % 2) (omega arith) (b % 2) (omega arith))
    (entry a b 1 (omega arith) (a % 2) (omega arith) (b % 2) (omega arith))

module _ (t a b : ℕ) where
  -- the bits of the parent, and the digit's
  crossed_half : crossed t a b / 2 ≡ crossed (carry t (a % 2) (b % 2)) (a / 2) (b / 2)
  crossed_half =
      let e : (a + b + t) / 2 ≡ a / 2 + b / 2 + (a % 2 + b % 2 + t) / 2 = omega arith in
      xor_shr (a + b + t) b 1 ∙ ap (λ (s : ℕ). bit_xor s (b / 2)) e

  crossed_bit : crossed t a b % 2 ≡ turned t (a % 2) (b % 2)
  crossed_bit =
      let e : (a + b + t) % 2 ≡ (a % 2 + b % 2 + t) % 2 = omega arith in
      xor_mod (a + b + t) b 1 ∙ ap (λ (s : ℕ). bit_xor s (b % 2)) e

  high_half : (k : ℕ) → high_bits (suc k) t a b / 2 ≡ high_bits k (carry t (a % 2) (b % 2)) (a / 2) (b / 2)
  high_half k =
      let e : all (suc k) / 2 ≡ all k = omega (arith, all_more k) in
      xor_shr (all (suc k)) (crossed t a b) 1 ∙ ap₂ bit_xor e crossed_half

  high_bit : (k : ℕ) → high_bits (suc k) t a b % 2 ≡ bit_xor 1 (turned t (a % 2) (b % 2))
  high_bit k =
      let e : all (suc k) % 2 ≡ 1 = omega (arith, all_more k) in
      xor_mod (all (suc k)) (crossed t a b) 1 ∙ ap₂ bit_xor e crossed_bit

  low_half : low_bits t a b / 2 ≡ low_bits (carry t (a % 2) (b % 2)) (a / 2) (b / 2)
  low_half = xor_shr b (bit_and a (crossed t a b)) 1 ∙ ap (bit_xor (b / 2)) (and_shr a (crossed t a b) 1 ∙ ap (bit_and (a / 2)) crossed_half)

  low_bit : low_bits t a b % 2 ≡ bit_xor (b % 2) (bit_and (a % 2) (turned t (a % 2) (b % 2)))
  low_bit = xor_mod b (bit_and a (crossed t a b)) 1 ∙ ap (bit_xor (b % 2)) (and_mod a (crossed t a b) 1 ∙ ap (bit_and (a % 2)) crossed_bit)

digits_bits : (k t a b : ℕ) → t < 2 → digits k (kind_at t a b) ≡ 2 * spread k (high_bits k t a b) + spread k (low_bits t a b)
unfolding digits recode
digits_bits zero t a b h = refl
digits_bits (suc k) t a b h =
    rw (parent_bits a b t h, high_half t a b k, high_bit t a b k, low_half t a b, low_bit t a b, digits_bits k (carry t (a % 2) (b % 2)) (a / 2) (b / 2) (omega arith))
    (omega arith)

-- ---- so with 16 bits to each number

-- a kind as a bit
abbrev kind_bit : Kind → ℕ
kind_bit Up = 0
kind_bit Down = 1

spans : (t : Kind) (a b : ℕ) → (kind_bit t < 2) × (triangle_of t a b ≡ kind_at (kind_bit t) a b) × (span (triangle_of t a b) ≡ a + b + kind_bit t + 1)
unfolding span
spans Up a b = (omega arith, refl, omega arith)
spans Down a b = (omega arith, refl, omega arith)

pub digits_bits_16 : (k : ℕ) (t : Kind) (a b : ℕ) → k ≤ 16 → span (triangle_of t a b) ≤ 2 ^ k →
    let c = bit_xor (span (triangle_of t a b) - 1) b in
    let h = bit_xor (all k) c in
    let l = bit_xor b (bit_and a c) in
    2 * spread 16 h + spread 16 l ≡ digits k (triangle_of t a b)
digits_bits_16 k t a b le s =
    let v = spans t a b in
    let c = crossed (kind_bit t) a b in
    let e : span (triangle_of t a b) - 1 ≡ a + b + kind_bit t = omega (arith, v.2) in
    let hb : b < 2 ^ k = omega (arith, v.2) in
    let hc : c < 2 ^ k = xor_lt k (a + b + kind_bit t) b (omega (arith, v.2)) hb in
    let h : high_bits k (kind_bit t) a b < 2 ^ k = xor_lt k (all k) c (ones_lt k) hc in
    let l : low_bits (kind_bit t) a b < 2 ^ k = xor_lt k b (bit_and a c) hb (and_lt k a c (omega (arith, v.2)) hc) in
    rw (e, v.1, recode_more 2 4 (λ d. d) refl k 16 (high_bits k (kind_bit t) a b) le h, recode_more 2 4 (λ d. d) refl k 16 (low_bits (kind_bit t) a b) le l)
    (sym (digits_bits k (kind_bit t) a b v.0))
