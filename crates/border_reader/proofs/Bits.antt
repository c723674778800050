-- Codes of three bits in bytes of eight: one code, and the bits after the last. Assumes nothing.
use Prim.Native.Nat.{ℕ, ◌+◌, ◌*◌, ◌/◌, ◌%◌, ◌^◌, ◌≤◌, ◌<◌}
use mathlib.Core.Bool.{Bool, true, false}
use mathlib.Core.Path.{◌≡◌, refl, sym, ap, ◌∙◌}
use mathlib.Core.List.{List}
use native.Mathlib.Nat.{div-div-eq-div-mul, div-eq_of_lt, div-lt_iff_lt-mul, one-le-pow, pow-le-pow_right, mod-eq_of_lt}
use native.Mathlib.Omega.{arith}
use borrow.Author.Tests.{ltb-true, lt-ltb, eqb-true, eqb-false}
use lib.Dec.{ltb, eqb}
use lib.ListN.{drop, get_or}
use lib.Pow.{pow-add}
use Rattle.code.proofs.Laws.{code_cases}
use Rattle.border.specs.Stored.{value_of, code_bytes}
use Rattle.border.proofs.Digits.{value_from, value_drop, from_digit, pow_pow}

-- ---- one code

-- the bits of a code that begins in a byte lie in it and in the next
in_two : (x y r s : ℕ) → s < 8 → (x + 256 * (y + 256 * r)) / 2 ^ s % 8 ≡ (x + 256 * y) / 2 ^ s % 8
in_two x y r =
    code_cases (λ (s : ℕ). s < 8 → (x + 256 * (y + 256 * r)) / 2 ^ s % 8 ≡ (x + 256 * y) / 2 ^ s % 8)
    (λ h. omega arith)
    (λ h. omega arith)
    (λ h. omega arith)
    (λ h. omega arith)
    (λ h. omega arith)
    (λ h. omega arith)
    (λ h. omega arith)
    (λ h. omega arith)
    (λ s h. absurd (omega arith))

-- code i
pub code_in : (bs : List ℕ) (i : ℕ) → ((i : ℕ) → get_or bs i 0 < 256) →
    (get_or bs (3 * i / 8) 0 + 256 * get_or bs (3 * i / 8 + 1) 0) / 2 ^ (3 * i % 8) % 8 ≡ value_of 256 bs / 8 ^ i % 8
code_in bs i h =
    let j = 3 * i / 8 in
    sym (in_two (get_or bs j 0) (get_or bs (j + 1) 0) (value_of 256 (drop (j + 1 + 1) bs)) (3 * i % 8) (omega arith))
    ∙ ap (λ (x : ℕ). x / 2 ^ (3 * i % 8) % 8)
    (ap (λ (x : ℕ). get_or bs j 0 + 256 * x) (sym (value_from 256 bs (j + 1))) ∙ sym (value_from 256 bs j) ∙ sym (value_drop 256 bs j h))
    ∙ ap (λ (x : ℕ). x % 8) (sym (from_digit 3 8 (value_of 256 bs) i))

-- ---- the bits after n codes

power : (n : ℕ) → 0 < 8 ^ n
power n = one-le-pow n 8 (omega arith)

-- three codes of zeros are nothing
zeros : (w : ℕ) → w < 512 → w % 8 ≡ 0 → w / 8 % 8 ≡ 0 → w / 64 % 8 ≡ 0 → w < 1
zeros w h z0 z1 z2 =
    let third = zero (w / 64) (omega arith) z2 in
    let second = zero (w / 8) (omega arith) z1 in
    omega (arith, zero w (omega arith) z0)
  where
    zero : (w : ℕ) → w < 8 → w % 8 ≡ 0 → w ≡ 0
    zero w h z = sym (mod-eq_of_lt h) ∙ z

module _ (v n : ℕ) where
  -- where a later code is not zero, they are not all zeros
  pub not_padded : (m : ℕ) → n ≤ m → (v / 8 ^ m % 8 ≡ 0 → ⊥) → ltb v (8 ^ n) ≡ false
  not_padded m l h = go (ltb v (8 ^ n)) refl
    where
      go : (t : Bool) → ltb v (8 ^ n) ≡ t → t ≡ false
      go true e =
          let b : v < 8 ^ m = omega (arith, ltb-true v (8 ^ n) e, pow-le-pow_right {n = 8} (omega arith) {i = n} {j = m} l) in
          absurd (h (rw (div-eq_of_lt b)))
      go false e = refl

  -- the next code, and the one after it
  next : v / 8 ^ (n + 1) ≡ v / 8 ^ n / 8
  next = ap (λ (x : ℕ). v / x) (pow-add 8 n 1) ∙ sym (div-div-eq-div-mul v (8 ^ n) 8)

  after_next : v / 8 ^ (n + 2) ≡ v / 8 ^ n / 64
  after_next = ap (λ (x : ℕ). v / x) (pow-add 8 n 2) ∙ sym (div-div-eq-div-mul v (8 ^ n) 64)

  -- bytes that n codes take have at most seven bits after them, and so are below 8^(n+3)
  bounded : v < 256 ^ code_bytes n → v / 8 ^ n < 512
  bounded h =
      let m : 256 ^ code_bytes n ≤ 8 ^ (3 + n) =
      rw (pow_pow 2 8 (code_bytes n), pow_pow 2 3 (3 + n)) (pow-le-pow_right {n = 2} (omega arith) {i = 8 * code_bytes n} {j = 3 * (3 + n)} (omega arith)) in
      (div-lt_iff_lt-mul {k = 8 ^ n} {x = v} {y = 512} (power n)).1 (omega (arith, pow-add 8 3 n))

  -- where the two codes after them are zeros, the third tells
  pub padded : (r : ℕ) → v < 256 ^ code_bytes n → v / 8 ^ n % 8 ≡ 0 → v / 8 ^ (n + 1) % 8 ≡ 0 → r ≡ v / 8 ^ (n + 2) % 8 → eqb r 0 ≡ ltb v (8 ^ n)
  padded r h z0 z1 e = go (eqb r 0) refl
    where
      go : (t : Bool) → eqb r 0 ≡ t → t ≡ ltb v (8 ^ n)
      go true q =
          let z2 : v / 8 ^ (n + 2) % 8 ≡ 0 = sym e ∙ eqb-true r 0 q in
          let w = zeros (v / 8 ^ n) (bounded h) z0 (rw next at z1) (rw after_next at z2) in
          sym (lt-ltb v (8 ^ n) (omega (arith, (div-lt_iff_lt-mul {k = 8 ^ n} {x = v} {y = 1} (power n)).0 w)))
      go false q = sym (not_padded (n + 2) (omega arith) (λ z. eqb-false r 0 q (e ∙ z)))
