-- The points of a level, word by word. Assumes nothing.
use Prim.Native.Nat.{ℕ, zero, suc, ◌+◌, ◌*◌, ◌-◌, ◌/◌, ◌%◌, ◌^◌, ◌≤◌, ◌<◌}
use mathlib.Core.Path.{◌≡◌, refl, sym, ap, ◌∙◌}
use mathlib.Core.Bool.{Bool, true, false}
use mathlib.Core.List.{List}
use native.Mathlib.Nat.{pow-suc}
use native.Mathlib.Omega.{arith}
use borrow.Author.Tests.{ltb-true, ltb-false, leb-true, le-leb, lt-leb, lt-ltb, le-ltb}
use lib.Dec.{leb, ltb}
use lib.Pow.{pow_pos}
use Rattle.refusal.proofs.Tests.{same_test}
use Rattle.bitset.specs.Bits.{bit, bits_of}
use Rattle.bitset.proofs.Laws.{bit_zero, bit_past, bit_bits_of, shifted}
use Rattle.rows.specs.Rows.{lit, word_count, spot_count, first_word, octant_at, row_at, col_at, inside}
use Rattle.rows.proofs.Words.{lit_past}
use Rattle.rows.specs.Words.{WordOf}
use Rattle.stencil.proofs.Loops.{Written}

-- ---- ones

all_ones : (n : ℕ) → bits_of n (λ j. true) + 1 ≡ 2 ^ n
unfolding bits_of
all_ones zero = refl
all_ones (suc n) = omega (arith, all_ones n, pow-suc 2 n)

pub ones_bits : (n j : ℕ) → bit (2 ^ n - 1) j ≡ ltb j n
ones_bits n j = go (ltb j n) refl
  where
    go : (b : Bool) → ltb j n ≡ b → bit (2 ^ n - 1) j ≡ b
    go true e =
        let q : 2 ^ n - 1 ≡ bits_of n (λ j. true) = omega (arith, all_ones n) in
        ap (λ (x : ℕ). bit x j) q ∙ bit_bits_of n (λ j. true) j (ltb-true j n e)
    go false e = bit_past n (2 ^ n - 1) j (omega (arith, pow_pos n)) (ltb-false j n e)

-- as the code makes them
pub ones_all : (n j : ℕ) → 64 ≤ n → j < 64 → bit (2 ^ 64 - 1) j ≡ ltb j n
ones_all n j h l = ones_bits 64 j ∙ lt-ltb j 64 l ∙ sym (lt-ltb j n (omega arith))

pub ones_some : (n j : ℕ) → n < 64 → bit (1 * 2 ^ n % 2 ^ 64 - 1) j ≡ ltb j n
ones_some n j h = rw (shifted 64 n h) (ones_bits n j)

-- ---- the points of a level

-- before the first row there are none
pub before_rows : (k w : ℕ) → w < 10 → WordOf 0 (inside k) w
unfolding inside
before_rows k w h = record { bits = λ j l. bit_zero j ∙ sym (none j l) }
  where
    none : (j : ℕ) → j < 64 → inside k (64 * w + j) ≡ false
    none j l = rw (lt-leb 640 (64 * w + j) (omega arith))

-- the octants' rows
octant_below : (n : ℕ) → n < 2066 → (n - 2) / 258 < 8
octant_below n h = omega arith

-- row and column of the first spot of a word, together
abbrev pub sum_at : ℕ → ℕ
sum_at w = (w / 5 - 2) % 258 + w % 5 * 64

-- in the rows: those of small sum
inside_sum : (k w j : ℕ) → first_word ≤ w → w < word_count → j < 64 → inside k (64 * w + j) ≡ leb (sum_at w + j) (2 ^ k)
unfolding inside
inside_sum k w j h u l =
    let i = 64 * w + j in
    let q : i / 320 ≡ w / 5 = omega arith in
    let r : col_at i ≡ w % 5 * 64 + j = omega arith in
    let t : row_at i ≡ (w / 5 - 2) % 258 = ap (λ (n : ℕ). (n - 2) % 258) q in
    let e : row_at i + col_at i ≡ sum_at w + j = omega arith in
    let b : octant_at i < 8 = octant_below (i / 320) (omega arith) in
    rw (le-leb 640 i (omega arith), lt-ltb (octant_at i) 8 b, e)

-- none where that is more than the level's
pub past_sum : (k w : ℕ) → first_word ≤ w → w < word_count → 2 ^ k < sum_at w → WordOf 0 (inside k) w
past_sum k w h u g = record { bits = λ j l. bit_zero j ∙ sym (inside_sum k w j h u l ∙ lt-leb (sum_at w + j) (2 ^ k) (omega arith)) }

-- else as many as there is left
pub in_sum : (k w r : ℕ) → first_word ≤ w → w < word_count → sum_at w ≤ 2 ^ k → ((j : ℕ) → j < 64 → bit r j ≡ ltb j (2 ^ k - sum_at w + 1)) → WordOf r (inside k) w
in_sum k w r h u g f = record { bits = λ j l. f j l ∙ below j (sum_at w) (2 ^ k) g ∙ sym (inside_sum k w j h u l) }
  where
    below : (j s n : ℕ) → s ≤ n → ltb j (n - s + 1) ≡ leb (s + j) n
    below j s n m = same_test (ltb j (n - s + 1)) (leb (s + j) n)
        (λ p. le-leb (s + j) n (omega (arith, ltb-true j (n - s + 1) p)))
        (λ p. lt-ltb j (n - s + 1) (omega (arith, leb-true (s + j) n p)))

-- past the last word there are none
past_rows : (k i : ℕ) → spot_count ≤ i → inside k i ≡ false
unfolding inside
past_rows k i h = rw (le-leb 640 i (omega arith), le-ltb (octant_at i) 8 (omega arith))

-- all words written hold all points
pub all_written : (k : ℕ) {s₀ s : List ℕ} → Written 0 word_count (inside k) s₀ s → (i : ℕ) → lit s i ≡ inside k i
all_written k {s₀} {s} g i = go (ltb i spot_count) refl
  where
    go : (b : Bool) → ltb i spot_count ≡ b → lit s i ≡ inside k i
    go true e = g.bits i ∙ rw (le-leb 0 i (omega arith), e)
    go false e =
        let h = ltb-false i spot_count e in
        lit_past s i (omega (arith, g.long)) ∙ sym (past_rows k i h)
