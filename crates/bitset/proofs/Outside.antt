-- A byte and its complement, loops that write one byte after the other, and cleared bytes. Assumes nothing.
use Prim.Native.Nat.{ℕ, zero, suc, ◌+◌, ◌*◌, ◌-◌, ◌/◌, ◌%◌, ◌^◌, ◌≤◌, ◌<◌}
use mathlib.Core.Path.{◌≡◌, refl, sym, ap, ◌∙◌}
use mathlib.Core.Bool.{Bool, true, false, not, cond}
use mathlib.Core.List.{List}
use native.Mathlib.Nat.{pow-suc}
use native.Mathlib.Omega.{arith}
use lib.ListN.{length, get_or, set, replicate}
use lib.Seq.{get_or-set_other}
use Rattle.bitset.specs.Bits.{bit, bits_of, bytes_of, marked, outside}
use Rattle.bitset.proofs.Laws.{bit_zero, bits_settled, bits_of_cong, marked_at, marked_bytes_of}

-- a byte and its complement add up to 255
both_halves : (n : ℕ) (P : ℕ → Bool) → bits_of n P + bits_of n (λ j. not (P j)) + 1 ≡ 2 ^ n
unfolding bits_of
both_halves zero P = refl
both_halves (suc n) P = go (P n) (both_halves n P)
  where
    go : (b : Bool) → bits_of n P + bits_of n (λ j. not (P j)) + 1 ≡ 2 ^ n → (bits_of n P + cond b (2 ^ n) 0) + (bits_of n (λ j. not (P j)) + cond (not b) (2 ^ n) 0) + 1 ≡ 2 ^ suc n
    go true ih = omega (arith, pow-suc 2 n)
    go false ih = omega (arith, pow-suc 2 n)

-- the byte that marks what another does not
pub byte_outside : (s : List ℕ) (i : ℕ) → get_or s i 0 < 256 → 255 - get_or s i 0 ≡ bits_of 8 (λ j. outside (marked s) (8 * i + j))
unfolding outside
byte_outside s i h =
    let x = get_or s i 0 in
    let e : 255 - x ≡ bits_of 8 (λ j. not (bit x j)) = omega (arith, both_halves 8 (bit x), bits_settled 8 x (bit x) h (λ j u. refl)) in
    e ∙ bits_of_cong 8 (λ j. not (bit x j)) (λ j. not (marked s (8 * i + j))) (λ j l. ap not (sym (marked_at s i j l)))

-- from i on a slice is as it was
abbrev pub Rest : List ℕ → List ℕ → ℕ → Type 0
Rest s₀ s i = (k : ℕ) → i ≤ k → get_or s k 0 ≡ get_or s₀ k 0

pub rest_less : (s₀ s : List ℕ) (i x : ℕ) → Rest s₀ s i → Rest s₀ (set s i x) (i + 1)
rest_less s₀ s i x r k h = get_or-set_other s i k x 0 (λ (e : k ≡ i). omega arith) ∙ r k (omega arith)

-- what a complement marks
pub complement_marks : (s t : List ℕ) → t ≡ bytes_of (length s) (outside (marked s)) → (c : ℕ) → c < 8 * length s → marked t c ≡ not (marked s c)
unfolding outside
complement_marks s t e c h = ap (λ (l : List ℕ). marked l c) e ∙ marked_bytes_of (length s) (λ i. not (marked s i)) c h

-- ---- cleared bytes

zeros : (n i : ℕ) → ◌≡◌ {A = ℕ} (get_or (replicate n 0) i 0) 0
zeros zero i = refl
zeros (suc n) zero = refl
zeros (suc n) (suc i) = zeros n i

-- mark nothing
pub marked_zeros : (n c : ℕ) → marked (replicate n 0) c ≡ false
unfolding marked
marked_zeros n c = rw (zeros n (c / 8)) (bit_zero (c % 8))
