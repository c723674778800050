-- The passes of shifts and masks that make digits of their high and low bits, and take them apart again. Assumes nothing.
use Prim.Native.Nat.{ℕ, zero, suc, ◌+◌, ◌*◌, ◌-◌, ◌/◌, ◌%◌, ◌^◌, ◌<◌}
use mathlib.Core.Path.{◌≡◌, refl, sym, ap, ap₂, ◌∙◌}
use native.Mathlib.Nat.{pow-suc, mul-mod_left, mod-eq_of_lt, mod-mod}
use native.Mathlib.Omega.{arith}
use lib.Bits.{bit_and, bit_or, or_zero_r, or_mod, and_block, or_block, or_comm, or_lt, or_shifted}
use Rattle.cell.specs.inside.Bits.{recode, spread, evens}
use Rattle.cell.proofs.Recode.{recode_apart, recode_low, recode_two}
use Rattle.cell.proofs.Runs.{and_low, or_over, masks, closer, put_together, put_apart, evens_small, and_evens}

-- ---- from high and low bits to digits

-- the masks that cut runs of 2 × w bits in two
abbrev singles : ℕ → ℕ → ℕ
singles w j = masks (2 ^ (w + w + (w + w))) ((2 ^ w - 1) * 2 ^ (w + w) + (2 ^ w - 1)) j

-- bits that are shifted out of 64 do not matter
abbrev pub wider64 : ℕ → ℕ → ℕ → ℕ
wider64 w m x = bit_and (bit_or x (x * 2 ^ w % 2 ^ 64)) m

apart_64 : (w j y : ℕ) → singles w j < 2 ^ 64 → wider64 w (singles w j) (recode (2 ^ (w + w)) (2 ^ (w + w + (w + w))) (λ d. d) j y)
    ≡ recode (2 ^ w) (2 ^ (w + w)) (λ d. d) (j + j) y
apart_64 w j y h =
    let x = recode (2 ^ (w + w)) (2 ^ (w + w + (w + w))) (λ d. d) j y in
    let m = singles w j in
    sym (and_low 64 (bit_or x (x * 2 ^ w % 2 ^ 64)) m h)
    ∙ rw (or_mod x (x * 2 ^ w % 2 ^ 64) 64, mod-mod (x * 2 ^ w) (2 ^ 64), ← (or_mod x (x * 2 ^ w) 64)) (and_low 64 (bit_or x (x * 2 ^ w)) m h)
    ∙ put_apart w j y

-- the four steps of the pass
abbrev pub pass_apart : ℕ → ℕ
pass_apart x = wider64 1 (singles 1 16) (wider64 2 (singles 2 8) (wider64 4 (singles 4 4) (wider64 8 (singles 8 2) x)))

apart_all : (y : ℕ) → pass_apart (recode (2 ^ 16) (2 ^ 32) (λ d. d) 2 y) ≡ spread 32 y
unfolding masks
apart_all y =
    ap (λ (x : ℕ). wider64 1 (singles 1 16) (wider64 2 (singles 2 8) (wider64 4 (singles 4 4) x))) (apart_64 8 2 y (omega arith))
    ∙ ap (λ (x : ℕ). wider64 1 (singles 1 16) (wider64 2 (singles 2 8) x)) (apart_64 4 4 y (omega arith))
    ∙ ap (λ (x : ℕ). wider64 1 (singles 1 16) x) (apart_64 2 8 y (omega arith))
    ∙ apart_64 1 16 y (omega arith)

-- both halves spread
spread_both : (h l : ℕ) → h < 2 ^ 16 → l < 2 ^ 16 → pass_apart (h * 2 ^ 32 + l) ≡ spread 16 h * 2 ^ 32 + spread 16 l
spread_both h l hh hl =
    let y = h * 2 ^ 16 + l in
    let q : y / 2 ^ 16 ≡ h = omega arith in
    let r : y % 2 ^ 16 ≡ l = omega arith in
    let both : y / 2 ^ 16 % 2 ^ 16 ≡ h = rw q (mod-eq_of_lt hh) in
    let two : h * 2 ^ 32 + l ≡ recode (2 ^ 16) (2 ^ 32) (λ d. d) 2 y = rw (recode_two, both, r) in
    ap pass_apart two ∙ apart_all y ∙ recode_apart 2 4 (λ d. d) 16 16 y ∙ rw (q, ← (recode_low 2 4 (λ d. d) (omega arith) 16 y), r)

-- a number at the odd places beside one at the even places
or_spread : (k x y : ℕ) → bit_or (2 * spread k x) (spread k y) ≡ 2 * spread k x + spread k y
unfolding recode
or_spread zero x y = refl
or_spread (suc k) x y =
    let u = spread k (x / 2) in
    let v = spread k (y / 2) in
    let e : 2 * (u * 4 + x % 2) ≡ 2 * u * 2 ^ 2 + x % 2 * 2 ^ 1 = omega arith in
    rw (e, or_block 2 (2 * u) v (x % 2 * 2 ^ 1) (y % 2) (omega arith) (omega arith), or_spread k (x / 2) (y / 2), or_shifted (x % 2) 1 (y % 2) (omega arith)) (omega arith)

-- at the even places stands less than a third
spread_third : (k x : ℕ) → 3 * spread k x < 4 ^ k
unfolding recode
spread_third zero x = omega arith
spread_third (suc k) x = omega (arith, pow-suc 4 k, spread_third k (x / 2))

-- the digits taken off the pass
pub joined : (h l : ℕ) → h < 2 ^ 16 → l < 2 ^ 16 →
    let p = pass_apart (h * 2 ^ 32 + l) in
    bit_or p (p / 2 ^ 31) % 2 ^ 32 ≡ 2 * spread 16 h + spread 16 l
joined h l hh hl =
    let p = pass_apart (h * 2 ^ 32 + l) in
    let u = spread 16 h in
    let v = spread 16 l in
    let e : p ≡ u * 2 ^ 32 + v = spread_both h l hh hl in
    let hu = spread_third 16 h in
    let hv = spread_third 16 l in
    let q : p / 2 ^ 31 % 2 ^ 32 ≡ 2 * u = omega arith in
    let r : p % 2 ^ 32 ≡ v = omega arith in
    rw (or_mod p (p / 2 ^ 31) 32, q, r, or_comm v (2 * u)) (or_spread 16 h l)

-- ---- from digits to their high and low bits

-- the masks that leave runs of 2 × w bits
abbrev pairs : ℕ → ℕ → ℕ
pairs w j = masks (2 ^ (w + w + (w + w))) (2 ^ (w + w) - 1) j

-- the four steps of the pass
abbrev pub pass_together : ℕ → ℕ
pass_together x = closer 8 (pairs 8 2) (closer 4 (pairs 4 4) (closer 2 (pairs 2 8) (closer 1 (pairs 1 16) x)))

together_all : (n : ℕ) → pass_together (bit_and n (masks 4 1 32)) ≡ recode (2 ^ 32) (2 ^ 32) (evens 16) 2 n
together_all n =
    ap pass_together (and_evens 32 n)
    ∙ ap (λ (x : ℕ). closer 8 (pairs 8 2) (closer 4 (pairs 4 4) (closer 2 (pairs 2 8) x))) (put_together 1 16 n)
    ∙ ap (λ (x : ℕ). closer 8 (pairs 8 2) (closer 4 (pairs 4 4) x)) (put_together 2 8 n)
    ∙ ap (λ (x : ℕ). closer 8 (pairs 8 2) x) (put_together 4 4 n)
    ∙ put_together 8 2 n

-- a number moved up by 31 bits beside itself: its half in the upper half, as far as the even bits go
halved : (n : ℕ) → n < 2 ^ 32 → wider64 31 (masks 4 1 32) n ≡ bit_and (n / 2 * 2 ^ 32 + n) (masks 4 1 32)
unfolding masks
halved n h =
    let m = masks 4 1 16 in
    let t = n % 2 * 2 ^ 31 in
    let e : n * 2 ^ 31 % 2 ^ 64 ≡ n / 2 * 2 ^ 32 + t = omega arith in
    let b : bit_or n (n / 2 * 2 ^ 32 + t) ≡ n / 2 * 2 ^ 32 + bit_or n t = or_over 32 (n / 2) n t h (omega arith) in
    let z : t % 2 ^ 31 ≡ 0 = mul-mod_left (n % 2) (2 ^ 31) in
    let o : bit_or n t % 2 ^ 31 ≡ n % 2 ^ 31 = rw (or_mod n t 31, z) (or_zero_r (n % 2 ^ 31)) in
    let a : bit_and (bit_or n t) m ≡ bit_and n m = sym (and_low 31 (bit_or n t) m (omega arith)) ∙ rw o (and_low 31 n m (omega arith)) in
    rw (e, b)
    (and_block 32 (n / 2) m (bit_or n t) m (or_lt 32 n t h (omega arith)) (omega arith)
    ∙ rw a (sym (and_block 32 (n / 2) m n m h (omega arith))))

-- the odd bits of a number, and its even bits
pub halves : (n : ℕ) → n < 2 ^ 32 →
    let p = pass_together (wider64 31 (masks 4 1 32) n) in
    (p / 2 ^ 32 ≡ evens 16 (n / 2)) × (p % 2 ^ 32 ≡ evens 16 n)
halves n h =
    let x = n / 2 * 2 ^ 32 + n in
    let u : x / 2 ^ 32 ≡ n / 2 = omega arith in
    let q : x / 2 ^ 32 % 2 ^ 32 ≡ n / 2 = rw u (mod-eq_of_lt (omega arith)) in
    let r : x % 2 ^ 32 ≡ n = omega arith in
    let e = ap pass_together (halved n h) ∙ together_all x ∙ recode_two (2 ^ 32) (2 ^ 32) (evens 16) x ∙ ap₂ (λ (y z : ℕ). evens 16 y * 2 ^ 32 + evens 16 z) q r in
    let l = evens_small 16 n in
    (omega arith, omega arith)
