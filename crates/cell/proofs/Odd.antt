-- Whether an odd number of bits are set, by foldings of a number onto itself: each doubles the count of the bits that are summed.
-- Assumes nothing.
use Prim.Native.Nat.{ℕ, zero, suc, ◌+◌, ◌*◌, ◌/◌, ◌%◌, ◌^◌, ◌≤◌, ◌<◌}
use mathlib.Core.Path.{◌≡◌, refl, sym, ap, ap₂, ◌∙◌}
use native.Mathlib.Nat.{mul_comm, pow-suc, div-div-eq-div-mul, div-add-mod'}
use native.Mathlib.Omega.{arith}
use lib.Bits.{bit_xor, xor_shr, xor_mod}
use Rattle.cell.specs.inside.Bits.{recode, ones, odd_from}
use Rattle.cell.proofs.Recode.{recode_apart, recode_more}
use Rattle.cell.proofs.Laws.{bit_cases}

-- the lowest bit of f x is the parity of x's j lowest bits, and so further up
record Sums (j : ℕ) (f : ℕ → ℕ) : Type 0 where
  parity : (x : ℕ) → f x % 2 ≡ ones j x % 2
  shift : (i x : ℕ) → f x / 2 ^ i ≡ f (x / 2 ^ i)

one_pow : (j : ℕ) → 1 ^ j ≡ 1
one_pow zero = refl
one_pow (suc j) = rw (pow-suc, one_pow j)

xor_bits : (p : ℕ) → p < 2 → (q : ℕ) → q < 2 → bit_xor p q ≡ (p + q) % 2
xor_bits = bit_cases _ (bit_cases _ refl refl) (bit_cases _ refl refl)

fold : (j : ℕ) (f : ℕ → ℕ) → Sums j f → Sums (j + j) (λ x. bit_xor (f x) (f x / 2 ^ j))
fold j f s = record { parity = parity-of; shift = shift_of }
  where
    parity-of : (x : ℕ) → bit_xor (f x) (f x / 2 ^ j) % 2 ≡ ones (j + j) x % 2
    parity-of x =
        rw (xor_mod (f x) (f x / 2 ^ j) 1, xor_bits (f x % 2) (omega arith) (f x / 2 ^ j % 2) (omega arith), s.shift j x, recode_apart 2 1 (λ d. d) j j x, one_pow j)
        (omega (arith, s.parity x, s.parity (x / 2 ^ j)))

    shift_of : (i x : ℕ) → bit_xor (f x) (f x / 2 ^ j) / 2 ^ i ≡ bit_xor (f (x / 2 ^ i)) (f (x / 2 ^ i) / 2 ^ j)
    shift_of i x =
        let e : f x / 2 ^ j / 2 ^ i ≡ f x / 2 ^ i / 2 ^ j = rw (div-div-eq-div-mul (f x) (2 ^ j) (2 ^ i), div-div-eq-div-mul (f x) (2 ^ i) (2 ^ j), mul_comm (2 ^ j) (2 ^ i)) in
        rw (xor_shr (f x) (f x / 2 ^ j) i, e, s.shift i x)

-- the number folded onto itself once, twice, ..
abbrev pub by2 : ℕ → ℕ
by2 x = bit_xor x (x / 2 ^ 1)

abbrev pub by4 : ℕ → ℕ
by4 x = bit_xor (by2 x) (by2 x / 2 ^ 2)

abbrev pub by8 : ℕ → ℕ
by8 x = bit_xor (by4 x) (by4 x / 2 ^ 4)

abbrev pub by16 : ℕ → ℕ
by16 x = bit_xor (by8 x) (by8 x / 2 ^ 8)

itself : Sums 1 (λ x. x)
unfolding recode
itself = record { parity = λ x. omega arith; shift = λ i x. refl }

sums_16 : Sums 16 by16
sums_16 = fold 8 by8 (fold 4 by4 (fold 2 by2 (fold 1 (λ x. x) itself)))

pub odd_from_lem : (k x : ℕ) → k ≤ 16 → x < 2 ^ k → by16 x ≡ odd_from k x
unfolding odd_from
odd_from_lem zero x h l = let z : x ≡ 0 = omega arith in rw z
odd_from_lem (suc k) x h l =
    let half : by16 x / 2 ≡ odd_from k (x / 2) = sums_16.shift 1 x ∙ odd_from_lem k (x / 2) (omega arith) (omega (arith, pow-suc 2 k)) in
    let bit : by16 x % 2 ≡ ones (suc k) x % 2 = sums_16.parity x ∙ ap (λ (n : ℕ). n % 2) (recode_more 2 1 (λ d. d) refl (suc k) 16 x h l) in
    sym (div-add-mod' (by16 x) 2) ∙ ap₂ (λ (q r : ℕ). q * 2 + r) half bit
