-- Codes of three bits put into bytes of eight: one byte, and the bytes before a place. Assumes nothing.
use Prim.Native.Nat.{ℕ, zero, suc, ◌+◌, ◌*◌, ◌/◌, ◌%◌, ◌^◌, ◌≤◌, ◌<◌}
use mathlib.Core.Path.{◌≡◌, sym, ap₂, ◌∙◌}
use mathlib.Core.List.{List, [], ◌∷◌, ◌++◌}
use native.Mathlib.Omega.{arith}
use lib.ListN.{length, take, get_or, set}
use Rattle.std.proofs.lemmas.List.{take_all, take_more, take_more_set}
use Rattle.border.specs.Stored.{digits_of, value_of}
use Rattle.border.proofs.Digits.{length_digits, get_or-digits, value_from, value_drop, from_digit}

-- the bits of a byte that begins in a code lie in it and in the three after it
in_four : (s a b c d r : ℕ) → s < 3 → (a + 8 * (b + 8 * (c + 8 * (d + 8 * r)))) / 2 ^ s % 256 ≡ (a + 8 * b + 64 * (c + 8 * d)) / 2 ^ s % 256
in_four zero a b c d r h = omega arith
in_four (suc zero) a b c d r h = omega arith
in_four (suc (suc zero)) a b c d r h = omega arith
in_four (suc (suc (suc s))) a b c d r h = absurd (omega arith)

-- byte i
pub byte_in : (codes : List ℕ) (i : ℕ) → ((i : ℕ) → get_or codes i 0 < 8) →
    let first = 8 * i / 3 in
    (get_or codes first 0 + 8 * get_or codes (first + 1) 0 + 64 * (get_or codes (first + 2) 0 + 8 * get_or codes (first + 3) 0)) / 2 ^ (8 * i % 3) % 256
    ≡ value_of 8 codes / 256 ^ i % 256
byte_in codes i h =
    let f = 8 * i / 3 in
    let two : f + 1 + 1 ≡ f + 2 = omega arith in
    let three : f + 2 + 1 ≡ f + 3 = omega arith in
    rw (from_digit 8 3 _ i, value_drop 8 codes f h, value_from 8 codes f, value_from 8 codes (f + 1), two, value_from 8 codes (f + 2), three, value_from 8 codes (f + 3))
    (sym (in_four (8 * i % 3) _ _ _ _ _ (omega arith)))

-- the bytes before place i are put
pub bytes_put : (n v i b : ℕ) (out : List ℕ) → i < length out → length out ≡ n → take i out ≡ take i (digits_of 256 n v) → b ≡ v / 256 ^ i % 256 →
    take (i + 1) (set out i b) ≡ take (i + 1) (digits_of 256 n v)
bytes_put n v i b out h e t q =
    take_more_set out i b h
    ∙ ap₂ (λ (xs : List ℕ) (x : ℕ). xs ++ x ∷ []) t (q ∙ sym (get_or-digits 256 n v i (omega arith)))
    ∙ sym (take_more (digits_of 256 n v) i 0 (omega (arith, length_digits 256 n v)))

-- all are
pub all_put : (n v i : ℕ) (out : List ℕ) → length out ≤ i → length out ≡ n → take i out ≡ take i (digits_of 256 n v) → out ≡ digits_of 256 n v
all_put n v i out h e t = sym (take_all i out h) ∙ t ∙ take_all i (digits_of 256 n v) (omega (arith, length_digits 256 n v))
