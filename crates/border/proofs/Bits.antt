-- Codes and their bytes say one number. Assumes nothing.
use Prim.Native.Nat.{ℕ, ◌+◌, ◌-◌, ◌*◌, ◌/◌, ◌%◌, ◌^◌, ◌≤◌, ◌<◌}
use mathlib.Core.Bool.{false}
use mathlib.Core.Path.{◌≡◌, refl, sym, ap, ap₂, ◌∙◌}
use mathlib.Core.List.{List}
use native.Mathlib.Nat.{pow-le-pow_right, lt_of_lt_of_le, div-eq_of_lt}
use native.Mathlib.Omega.{arith}
use lib.Dec.{eqb}
use lib.ListN.{length, get_or}
use lib.Pow.{field, mod-mod-pow, shr-shr}
use Rattle.bitset.specs.Bits.{bit, marked}
use Rattle.border.specs.Stored.{digits_of, value_of, code_bytes, packed, unpacked}
use Rattle.border.proofs.Digits.{length_digits, get_or-digits, value_below, value_digits, digits_value, pow_pow}

-- n codes are at most as much as their bytes
room : (n : ℕ) → 8 ^ n ≤ 256 ^ code_bytes n
room n =
    rw (pow_pow 2 3 n, pow_pow 2 8 (code_bytes n)) (pow-le-pow_right {n = 2} (omega arith) {i = 3 * n} {j = 8 * code_bytes n} (omega arith))

pub length_packed : (codes : List ℕ) → length (packed codes) ≡ code_bytes (length codes)
length_packed codes = length_digits 256 (code_bytes (length codes)) (value_of 8 codes)

module _ (codes : List ℕ) (d : (i : ℕ) → get_or codes i 0 < 8) where
  pub value_packed : value_of 256 (packed codes) ≡ value_of 8 codes
  value_packed =
      let n = length codes in
      value_digits 256 (code_bytes n) (value_of 8 codes) (omega arith) (omega (arith, value_below 8 codes d, room n))

  -- so the bits after them are zeros
  pub packed_padded : value_of 256 (packed codes) < 8 ^ length codes
  packed_padded = rw value_packed (value_below 8 codes d)

  pub unpacked_packed : unpacked (length codes) (packed codes) ≡ codes
  unpacked_packed = rw value_packed (digits_value 8 (length codes) codes refl d)

-- bytes are those of the codes that they say, where the bits after these are zeros
pub packed_unpacked : (n : ℕ) (bs : List ℕ) → length bs ≡ code_bytes n → ((i : ℕ) → get_or bs i 0 < 256) → value_of 256 bs < 8 ^ n →
    packed (unpacked n bs) ≡ bs
packed_unpacked n bs e d h =
    ap₂ (λ (m v : ℕ). digits_of 256 (code_bytes m) v) (length_digits 8 n (value_of 256 bs)) (value_digits 8 n (value_of 256 bs) (omega arith) h)
    ∙ digits_value 256 (code_bytes n) bs e d

-- ---- bit by bit

-- bit j of digit i in base 2^w is bit w · i + j of the number
digit_bit : (w i j v : ℕ) → j < w → (v / (2 ^ w) ^ i % 2 ^ w) / 2 ^ j % 2 ≡ v / 2 ^ (w * i + j) % 2
digit_bit w i j v h =
    let a = w - j - 1 in
    let e : w ≡ a + 1 + j = omega arith in
    let x = v / 2 ^ (w * i) in
    rw (pow_pow 2 w i)
    (ap (λ (s : ℕ). x % 2 ^ s / 2 ^ j % 2) e
    ∙ ap (λ (y : ℕ). y % 2) (field x (a + 1) j)
    ∙ mod-mod-pow (x / 2 ^ j) a 1
    ∙ ap (λ (y : ℕ). y % 2) (shr-shr v (w * i) j))

-- bit c of the bytes that are digits of a number is its bit c
bytes-bit : (n v c : ℕ) → c < 8 * n → marked (digits_of 256 n v) c ≡ bit v c
unfolding marked bit
bytes-bit n v c h =
    let e : 8 * (c / 8) + c % 8 ≡ c = omega arith in
    rw (get_or-digits 256 n v (c / 8) (omega arith))
    (ap (λ (x : ℕ). eqb x 1) (digit_bit 8 (c / 8) (c % 8) v (omega arith) ∙ ap (λ (s : ℕ). v / 2 ^ s % 2) e))

-- codes are three bits each, low bits first: bit 3i + j of their bytes is bit j of code i
pub code_bit : (codes : List ℕ) → ((i : ℕ) → get_or codes i 0 < 8) → (i j : ℕ) → i < length codes → j < 3 →
    marked (packed codes) (3 * i + j) ≡ bit (get_or codes i 0) j
unfolding bit
code_bit codes d i j h l =
    let n = length codes in
    let v = value_of 8 codes in
    let code : get_or codes i 0 ≡ v / 8 ^ i % 8 = ap (λ (cs : List ℕ). get_or cs i 0) (sym (digits_value 8 n codes refl d)) ∙ get_or-digits 8 n v i h in
    bytes-bit (code_bytes n) v (3 * i + j) (omega arith)
    ∙ ap (λ (x : ℕ). eqb x 1) (sym (digit_bit 3 i j v l))
    ∙ ap (λ (c : ℕ). eqb (c / 2 ^ j % 2) 1) (sym code)

-- and the bits after the last code are zeros
pub pad_bit : (codes : List ℕ) → ((i : ℕ) → get_or codes i 0 < 8) → (c : ℕ) → 3 * length codes ≤ c → c < 8 * code_bytes (length codes) →
    marked (packed codes) c ≡ false
unfolding bit
pad_bit codes d c h l =
    let n = length codes in
    let v = value_of 8 codes in
    let small : v < 2 ^ c = lt_of_lt_of_le (rw (pow_pow 2 3 n) at (value_below 8 codes d)) (pow-le-pow_right {n = 2} (omega arith) {i = 3 * n} {j = c} h) in
    bytes-bit (code_bytes n) v c l ∙ ap (λ (x : ℕ). eqb (x % 2) 1) (div-eq_of_lt small)
