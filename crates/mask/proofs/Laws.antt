-- The laws of masks' sizes and of their lowest cells. Assumes nothing.
use Prim.Native.Nat.{ℕ, zero, suc, ◌+◌, ◌*◌, ◌/◌, ◌%◌, ◌^◌, ◌≤◌, ◌<◌}
use mathlib.Core.Path.{◌≡◌, refl, sym, ap, ◌∙◌}
use mathlib.Core.Bool.{Bool, true, false, cond, not, ◌&&◌, ◌||◌, and-false}
use mathlib.Core.List.{List}
use mathlib.Core.Logic.{⊎_elim}
use native.Mathlib.Nat.{pow-le-pow_right, eq-or-lt_of_le, lt_of_le_of_lt, mul-le-mul_left, mod-eq_of_lt}
use native.Mathlib.Omega.{arith}
use borrow.Author.Tests.{eq-eqb, ne_eqb}
use lib.Bits.{bit_or, or_lt}
use lib.ListN.{get_or}
use Rattle.refusal.proofs.Tests.{clash}
use Rattle.bitset.specs.Bits.{bit, marked, bits_of}
use Rattle.bitset.proofs.Laws.{marked_at, bits_settled, bit_or_lem}
use Rattle.cell.proofs.Laws.{shift_four}
use Rattle.mask.specs.Mask.{max_mask_level, within, lacks, lowest, difference, union}

-- no mask is longer than those of the highest level
pub mask_small : (k : ℕ) → k ≤ max_mask_level → 4 ^ k ≤ 4 ^ max_mask_level
mask_small k h = pow-le-pow_right {n = 4} (omega arith) {i = k} {j = max_mask_level} h

-- c shifted by twice the level, in a number of w bits, is c × 4^k: with c = 1 the bytes of a mask, with c = 8 its cells
pub level_shifted : (w c k : ℕ) → k ≤ max_mask_level → c * 4 ^ max_mask_level < 2 ^ w → c * 2 ^ (2 * k) % 2 ^ w ≡ c * 4 ^ k
level_shifted w c k h l = rw (shift_four k) (mod-eq_of_lt (lt_of_le_of_lt (mul-le-mul_left c (mask_small k h)) l))

-- the lowest of a set: none below it, and it is in the set unless it is past the end
pub lowest_none : (P : ℕ → Bool) (j m : ℕ) → ((c : ℕ) → c < m + j → P c ≡ false) → lowest P j m ≡ within
unfolding lowest
lowest_none P zero m f = refl
lowest_none P (suc j) m f = rw (f m (omega arith)) (lowest_none P j (suc m) (λ c h. f c (omega arith)))

pub lowest_at : (P : ℕ → Bool) (j m r : ℕ) → m ≤ r → r < m + j → ((c : ℕ) → c < r → P c ≡ false) → P r ≡ true → lowest P j m ≡ lacks r
unfolding lowest
lowest_at P zero m r h l f e = absurd (omega arith)
lowest_at P (suc j) m r h l f e = go (P m) refl (lowest_at P j (suc m) r)
  where
    go : (b : Bool) → P m ≡ b →
        (suc m ≤ r → r < suc m + j → ((c : ℕ) → c < r → P c ≡ false) → P r ≡ true → lowest P j (suc m) ≡ lacks r) →
        cond b (lacks m) (lowest P j (suc m)) ≡ lacks r
    go true q ih = ⊎_elim
        (λ (d : m ≡ r). ap lacks d)
        (λ (d : m < r). clash q (f m d))
        (eq-or-lt_of_le h)
    go false q ih = ⊎_elim
        (λ (d : m ≡ r). clash e (ap P (sym d) ∙ q))
        (λ (d : m < r). ih d (omega arith) f e)
        (eq-or-lt_of_le h)

-- ---- a cell of the first mask against the second

module _ (a b : List ℕ) (i j : ℕ) (h : j < 8) where
  -- cell 8 × i + j is lacking exactly where the first byte has its bit and the second has not
  difference_at : difference (marked a) (marked b) (8 * i + j) ≡ (bit (get_or a i 0) j && not (bit (get_or b i 0) j))
  unfolding difference
  difference_at = rw (marked_at a i j h, marked_at b i j h)

  pub lacking : get_or a i 0 / 2 ^ j % 2 ≡ 1 → get_or b i 0 / 2 ^ j % 2 ≡ 0 → difference (marked a) (marked b) (8 * i + j) ≡ true
  unfolding bit
  lacking p q = difference_at ∙ rw (p, q)

  pub unmarked : (get_or a i 0 / 2 ^ j % 2 ≡ 1 → ⊥) → difference (marked a) (marked b) (8 * i + j) ≡ false
  unfolding bit
  unmarked p = difference_at ∙ rw (ne_eqb (get_or a i 0 / 2 ^ j % 2) 1 p)

  pub marked_too : (get_or b i 0 / 2 ^ j % 2 ≡ 0 → ⊥) → difference (marked a) (marked b) (8 * i + j) ≡ false
  unfolding bit
  marked_too p = difference_at ∙ rw (eq-eqb (get_or b i 0 / 2 ^ j % 2) 1 (omega arith)) (and-false (bit (get_or a i 0) j))

-- ---- a byte of either mask

pub either : (a b : List ℕ) (i : ℕ) → get_or a i 0 < 256 → get_or b i 0 < 256 →
    bit_or (get_or a i 0) (get_or b i 0) ≡ bits_of 8 (λ j. union (marked a) (marked b) (8 * i + j))
unfolding union
either a b i h l = bits_settled 8 (bit_or (get_or a i 0) (get_or b i 0)) (λ j. marked a (8 * i + j) || marked b (8 * i + j)) (or_lt 8 (get_or a i 0) (get_or b i 0) h l)
    (λ j k. bit_or_lem (get_or a i 0) (get_or b i 0) j ∙ rw (marked_at a i j k, marked_at b i j k))
