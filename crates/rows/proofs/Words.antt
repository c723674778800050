-- Bits of words, as the code shifts, joins and stores them. Assumes nothing.
use Prim.Native.Nat.{ℕ, zero, suc, ◌+◌, ◌*◌, ◌/◌, ◌%◌, ◌^◌, ◌≤◌, ◌<◌, min}
use mathlib.Core.Path.{◌≡◌, refl, sym, ap, ◌∙◌}
use mathlib.Core.Bool.{Bool, true, false, cond, ◌&&◌, ◌||◌, or-false}
use mathlib.Core.List.{List}
use native.Mathlib.Nat.{mul-add-mod_self_right, div-div-eq-div-mul, add-zero, mul-div_cancel}
use native.Mathlib.Omega.{arith}
use borrow.Author.Tests.{eq-eqb, lt-ltb, eqb-true, eqb-false}
use lib.Bits.{bit_and, bit_or, and_step, and_shr}
use lib.Dec.{ltb, eqb}
use lib.ListN.{length, get_or, set, replicate, get_or-eq_default}
use lib.Pow.{pow-add, pow_pos, split}
use lib.Seq.{get_or-set_same, get_or-set_other}
use Rattle.bitset.specs.Bits.{bit}
use Rattle.bitset.proofs.Laws.{bit_zero, bit_low, bit_or_lem, bit_pow, shifted}
use Rattle.refusal.proofs.Tests.{same_test, both, parts}
use Rattle.rows.specs.Rows.{lit, spot_count}

-- ---- numbers

and_digit : (x y : ℕ) → x < 2 → y < 2 → eqb (min x y % 2) 1 ≡ (eqb x 1 && eqb y 1)
and_digit zero zero h l = refl
and_digit zero (suc zero) h l = refl
and_digit (suc zero) zero h l = refl
and_digit (suc zero) (suc zero) h l = refl
and_digit (suc (suc x)) y h l = absurd (omega arith)
and_digit zero (suc (suc y)) h l = absurd (omega arith)
and_digit (suc zero) (suc (suc y)) h l = absurd (omega arith)

and_low : (x y : ℕ) → eqb (bit_and x y % 2) 1 ≡ (eqb (x % 2) 1 && eqb (y % 2) 1)
and_low x y =
    ap (λ (n : ℕ). eqb (n % 2) 1) (and_step x y)
    ∙ ap (λ (n : ℕ). eqb n 1) (mul-add-mod_self_right (bit_and (x / 2) (y / 2)) 2 (min (x % 2) (y % 2)))
    ∙ and_digit (x % 2) (y % 2) (omega arith) (omega arith)

pub bit_and_lem : (x y j : ℕ) → bit (bit_and x y) j ≡ (bit x j && bit y j)
unfolding bit
bit_and_lem x y j = ap (λ (n : ℕ). eqb (n % 2) 1) (and_shr x y j) ∙ and_low (x / 2 ^ j) (y / 2 ^ j)

-- shifted right: bit j was bit s + j
pub bit_shr : (x s j : ℕ) → bit (x / 2 ^ s) j ≡ bit x (s + j)
unfolding bit
bit_shr x s j = rw (div-div-eq-div-mul x (2 ^ s) (2 ^ j), ← (pow-add 2 s j))

-- cut to n bits: the bits below n stay
pub bit_mod : (n x j : ℕ) → j < n → bit (x % 2 ^ n) j ≡ bit x j
bit_mod n x j h = sym (bit_low n (x / 2 ^ n) (x % 2 ^ n) j h) ∙ ap (λ (y : ℕ). bit y j) (split x n)

-- shifted left in n bits: bit s + j was bit j, and those below s are 0
pub shl_high : (n x s j : ℕ) → s + j < n → bit (x * 2 ^ s % 2 ^ n) (s + j) ≡ bit x j
shl_high n x s j h = bit_mod n (x * 2 ^ s) (s + j) h ∙ sym (bit_shr (x * 2 ^ s) s j) ∙ ap (λ (y : ℕ). bit y j) (mul-div_cancel x (pow_pos s))

pub shl_low : (n x s j : ℕ) → j < s → j < n → bit (x * 2 ^ s % 2 ^ n) j ≡ false
shl_low n x s j h l = bit_mod n (x * 2 ^ s) j l ∙ ap (λ (y : ℕ). bit y j) (sym (add-zero (x * 2 ^ s))) ∙ bit_low s x 0 j h ∙ bit_zero j

-- ---- words

pub lit_at : (s : List ℕ) (w j : ℕ) → j < 64 → lit s (64 * w + j) ≡ bit (get_or s w 0) j
unfolding lit
lit_at s w j h =
    let q : (64 * w + j) / 64 ≡ w = omega arith in
    let r : (64 * w + j) % 64 ≡ j = omega arith in
    rw (q, r)

pub lit_past : (s : List ℕ) (i : ℕ) → 64 * length s ≤ i → lit s i ≡ false
unfolding lit
lit_past s i h = rw (get_or-eq_default s 0 {n = i / 64} (omega arith)) (bit_zero (i % 64))

pub lit_zeros : (n i : ℕ) → lit (replicate n 0) i ≡ false
unfolding lit
lit_zeros n i = rw (zeros n (i / 64)) (bit_zero (i % 64))
  where
    zeros : (n k : ℕ) → ◌≡◌ {A = ℕ} (get_or (replicate n 0) k 0) 0
    zeros zero k = refl
    zeros (suc n) zero = refl
    zeros (suc n) (suc k) = zeros n k

-- one word stored
pub lit_set : (s : List ℕ) (w v i : ℕ) → w < length s → lit (set s w v) i ≡ cond (eqb (i / 64) w) (bit v (i % 64)) (lit s i)
unfolding lit
lit_set s w v i h = go (eqb (i / 64) w) refl
  where
    go : (b : Bool) → eqb (i / 64) w ≡ b → bit (get_or (set s w v) (i / 64) 0) (i % 64) ≡ cond b (bit v (i % 64)) (bit (get_or s (i / 64) 0) (i % 64))
    go true e = rw (eqb-true (i / 64) w e, get_or-set_same s w v 0 h)
    go false e = rw (get_or-set_other s w (i / 64) v 0 (eqb-false (i / 64) w e))

-- one word joined with another
pub lit_join : (s : List ℕ) (w y i : ℕ) → w < length s → lit (set s w (bit_or (get_or s w 0) y)) i ≡ (lit s i || (eqb (i / 64) w && bit y (i % 64)))
unfolding lit
lit_join s w y i h = lit_set s w (bit_or (get_or s w 0) y) i h ∙ go (eqb (i / 64) w) refl
  where
    go : (b : Bool) → eqb (i / 64) w ≡ b → cond b (bit (bit_or (get_or s w 0) y) (i % 64)) (lit s i) ≡ (lit s i || (b && bit y (i % 64)))
    go true e = bit_or_lem (get_or s w 0) y (i % 64) ∙ rw (eqb-true (i / 64) w e)
    go false e = sym (or-false (lit s i))

-- one bit
pub lit_one : (s : List ℕ) (p i : ℕ) → p < 64 * length s →
    lit (set s (p / 64) (bit_or (get_or s (p / 64) 0) (1 * 2 ^ (p % 64) % 2 ^ 64))) i ≡ (lit s i || eqb i p)
lit_one s p i h =
    lit_join s (p / 64) (1 * 2 ^ (p % 64) % 2 ^ 64) i (omega arith)
    ∙ ap (λ (b : Bool). lit s i || b) (ap (λ (n : ℕ). eqb (i / 64) (p / 64) && bit n (i % 64)) (shifted 64 (p % 64) (omega arith))
    ∙ ap (λ (b : Bool). eqb (i / 64) (p / 64) && b) (bit_pow (p % 64) (i % 64))
    ∙ same_test (eqb (i / 64) (p / 64) && eqb (p % 64) (i % 64)) (eqb i p) there back)
  where
    there : (eqb (i / 64) (p / 64) && eqb (p % 64) (i % 64)) ≡ true → eqb i p ≡ true
    there e =
        let q = parts (eqb (i / 64) (p / 64)) (eqb (p % 64) (i % 64)) e in
        eq-eqb i p (omega (arith, eqb-true (i / 64) (p / 64) q.0, eqb-true (p % 64) (i % 64) q.1))

    back : eqb i p ≡ true → (eqb (i / 64) (p / 64) && eqb (p % 64) (i % 64)) ≡ true
    back e =
        let q = eqb-true i p e in
        both (eqb (i / 64) (p / 64)) (eqb (p % 64) (i % 64)) (eq-eqb (i / 64) (p / 64) (omega arith)) (eq-eqb (p % 64) (i % 64) (omega arith))

-- a bit that is set where it is one of the rows
pub set_here : (b : Bool) (i p : ℕ) → p < spot_count → (b || (eqb i p && ltb i spot_count)) ≡ (b || eqb i p)
set_here b i p h = ap (λ (x : Bool). b || x) (go (eqb i p) refl)
  where
    go : (x : Bool) → eqb i p ≡ x → (x && ltb i spot_count) ≡ x
    go true e = let q = eqb-true i p e in lt-ltb i spot_count (omega arith)
    go false e = refl
