-- Digits of a number in a base, low digit first. Assumes nothing.
use Prim.Native.Nat.{ℕ, zero, suc, ◌+◌, ◌*◌, ◌/◌, ◌%◌, ◌^◌, ◌<◌}
use mathlib.Core.Path.{◌≡◌, refl, sym, ap, ap₂, ◌∙◌}
use mathlib.Core.List.{List, [], ◌∷◌}
use native.Mathlib.Nat.{div-add-mod, pow-zero, pow-suc, mul_comm, div-div-eq-div-mul, div-one, zero-div, zero-add, mul-zero, mul-suc, mod-lt, mod-add-div}
use native.Mathlib.Nat.{add-mul-div_left, add-mul-mod_self_left, div-eq_of_lt, mod-eq_of_lt, div-lt_iff_lt-mul, mul-le-mul_left}
use native.Mathlib.Omega.{arith}
use lib.ListN.{length, drop, get_or}
use lib.Pow.{pow-add}
use lib.Seq.{drop-cons, get_or-drop}
use Rattle.std.proofs.lemmas.List.{drop-drop}
use Rattle.border.specs.Stored.{digits_of, value_of}

pub length_digits : (b n v : ℕ) → length (digits_of b n v) ≡ n
unfolding digits_of
length_digits b zero v = refl
length_digits b (suc n) v = ap suc (length_digits b n (v / b))

-- digit i
pub get_or-digits : (b n v i : ℕ) → i < n → get_or (digits_of b n v) i 0 ≡ v / b ^ i % b
unfolding digits_of
get_or-digits b zero v i h = absurd (omega arith)
get_or-digits b (suc n) v zero h = rw (pow-zero b, div-one v)
get_or-digits b (suc n) v (suc i) h =
    get_or-digits b n (v / b) i (omega arith) ∙ rw (div-div-eq-div-mul v b (b ^ i), mul_comm b (b ^ i), ← pow-suc b i)

-- from digit i on they begin with it
pub drop_digits : (b n v i : ℕ) → i < n → drop i (digits_of b n v) ≡ (v / b ^ i % b) ∷ drop (suc i) (digits_of b n v)
drop_digits b n v i h =
    let l : i < length (digits_of b n v) = rw (length_digits b n v) h in
    drop-cons (digits_of b n v) i 0 l ∙ ap (λ (d : ℕ). d ∷ drop (suc i) (digits_of b n v)) (get_or-digits b n v i h)

-- each is below the base
pub digits_below : (b n v : ℕ) → 0 < b → (i : ℕ) → get_or (digits_of b n v) i 0 < b
unfolding digits_of
digits_below b zero v h i = h
digits_below b (suc n) v h zero = mod-lt v h
digits_below b (suc n) v h (suc i) = digits_below b n (v / b) h i

-- ---- the number that digits say

-- its low digit, and what is left without it
pub low_digit : (b d v : ℕ) → d < b → (d + b * v) % b ≡ d
low_digit b d v h = add-mul-mod_self_left d b v ∙ mod-eq_of_lt h

pub low_left : (b d v : ℕ) → d < b → (d + b * v) / b ≡ v
low_left b d v h = add-mul-div_left d v {y = b} (omega arith) ∙ ap (λ (x : ℕ). x + v) (div-eq_of_lt h) ∙ zero-add v

-- a number is its low digit and what is left, also where there are no digits
pub value_first : (b : ℕ) (ds : List ℕ) → value_of b ds ≡ get_or ds 0 0 + b * value_of b (drop 1 ds)
unfolding value_of
value_first b [] = omega (arith, mul-zero b)
value_first b (d ∷ ds) = refl

-- from digit j on
pub value_drop : (b : ℕ) (ds : List ℕ) (j : ℕ) → ((i : ℕ) → get_or ds i 0 < b) → value_of b ds / b ^ j ≡ value_of b (drop j ds)
unfolding value_of
value_drop b ds zero h = rw (pow-zero b) (div-one (value_of b ds))
value_drop b [] (suc j) h = zero-div (b ^ suc j)
value_drop b (d ∷ ds) (suc j) h =
    ap (λ (x : ℕ). (d + b * value_of b ds) / x) (pow-suc b j ∙ mul_comm (b ^ j) b)
    ∙ sym (div-div-eq-div-mul (d + b * value_of b ds) b (b ^ j))
    ∙ ap (λ (x : ℕ). x / b ^ j) (low_left b d (value_of b ds) (h 0))
    ∙ value_drop b ds j (λ i. h (suc i))

-- which begins with that digit
pub value_from : (b : ℕ) (ds : List ℕ) (i : ℕ) → value_of b (drop i ds) ≡ get_or ds i 0 + b * value_of b (drop (i + 1) ds)
value_from b ds i = let e : i + 0 ≡ i = omega arith in value_first b (drop i ds) ∙ rw (get_or-drop, drop-drop, e)

-- n digits say a number below b^n
pub value_below : (b : ℕ) (ds : List ℕ) → ((i : ℕ) → get_or ds i 0 < b) → value_of b ds < b ^ length ds
unfolding value_of
value_below b [] h = rw (pow-zero b) (omega arith)
value_below b (d ∷ ds) h =
    let l = mul-le-mul_left {m = value_of b ds + 1} {n = b ^ length ds} b (omega (arith, value_below b ds (λ i. h (suc i)))) in
    omega (arith, h 0, pow-suc b (length ds))

-- digits are those of the number that they say
pub digits_value : (b n : ℕ) (ds : List ℕ) → length ds ≡ n → ((i : ℕ) → get_or ds i 0 < b) → digits_of b n (value_of b ds) ≡ ds
unfolding digits_of value_of
digits_value b zero [] e h = refl
digits_value b zero (d ∷ ds) e h = absurd (omega arith)
digits_value b (suc n) [] e h = absurd (omega arith)
digits_value b (suc n) (d ∷ ds) e h =
    ap₂ (λ (x : ℕ) (xs : List ℕ). x ∷ xs) (low_digit b d (value_of b ds) (h 0))
    (ap (digits_of b n) (low_left b d (value_of b ds) (h 0)) ∙ digits_value b n ds (omega arith) (λ i. h (suc i)))

-- and n digits of a number below b^n say it
pub value_digits : (b n v : ℕ) → 0 < b → v < b ^ n → value_of b (digits_of b n v) ≡ v
unfolding digits_of value_of
value_digits b zero v g h = omega (arith, pow-zero b)
value_digits b (suc n) v g h =
    ap (λ (x : ℕ). v % b + b * x) (value_digits b n (v / b) g ((div-lt_iff_lt-mul {k = b} {x = v} {y = b ^ n} g).1 (rw (pow-suc b n) at h)))
    ∙ mod-add-div v b

-- ---- powers

pub pow_pow : (b m n : ℕ) → (b ^ m) ^ n ≡ b ^ (m * n)
pow_pow b m zero = rw (mul-zero m, pow-zero b, pow-zero (b ^ m))
pow_pow b m (suc n) = rw (mul-suc m n, pow-add b (m * n) m, pow-suc (b ^ m) n, pow_pow b m n)

-- a number from its digit i of a bits on, by its digits of b bits: from the one in which that digit begins, and from the bit in it on
pub from_digit : (a b v i : ℕ) → v / (2 ^ a) ^ i ≡ v / (2 ^ b) ^ (a * i / b) / 2 ^ (a * i % b)
from_digit a b v i =
    ap (λ (x : ℕ). v / x)
    (pow_pow 2 a i
    ∙ ap (λ (n : ℕ). 2 ^ n) (sym (div-add-mod (a * i) b))
    ∙ pow-add 2 (b * (a * i / b)) (a * i % b)
    ∙ ap (λ (x : ℕ). x * 2 ^ (a * i % b)) (sym (pow_pow 2 b (a * i / b))))
    ∙ sym (div-div-eq-div-mul v ((2 ^ b) ^ (a * i / b)) (2 ^ (a * i % b)))
