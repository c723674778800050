-- A loop that writes one word after the other, in terms of bits. Assumes nothing.
use Prim.Native.Nat.{ℕ, ◌+◌, ◌*◌, ◌/◌, ◌%◌, ◌≤◌, ◌<◌}
use mathlib.Core.Path.{◌≡◌, refl, ap, ◌∙◌}
use mathlib.Core.Bool.{Bool, true, false, cond, ◌&&◌}
use mathlib.Core.List.{List}
use native.Mathlib.Omega.{arith}
use borrow.Author.Tests.{eqb-true, eqb-false, ltb-true, leb-true, le-leb, lt-ltb, le-ltb}
use Rattle.refusal.proofs.Tests.{same_test}
use lib.Dec.{eqb, leb, ltb}
use lib.ListN.{length, set, length-set}
use Rattle.bitset.specs.Bits.{bit}
use Rattle.rows.specs.Rows.{lit, word_count}
use Rattle.rows.proofs.Words.{lit_set}
use Rattle.rows.specs.Words.{WordOf}

-- of all words those from `first` to before w hold a set, the others what they held
pub record Written (first w : ℕ) (P : ℕ → Bool) (s₀ s : List ℕ) : Type 0 where
  pub long : length s ≡ word_count
  pub bits : (i : ℕ) → lit s i ≡ cond (leb (64 * first) i && ltb i (64 * w)) (P i) (lit s₀ i)

-- no word yet
pub written_none : (first : ℕ) (P : ℕ → Bool) (s : List ℕ) → length s ≡ word_count → Written first first P s s
written_none first P s n = record { long = n; bits = λ i. go i (leb (64 * first) i) refl }
  where
    go : (i : ℕ) (b : Bool) → leb (64 * first) i ≡ b → lit s i ≡ cond (b && ltb i (64 * first)) (P i) (lit s i)
    go i true e = rw (le-ltb i (64 * first) (leb-true (64 * first) i e))
    go i false e = refl

-- one word more
pub written_more : {first w v : ℕ} {P : ℕ → Bool} {s₀ s : List ℕ} →
    first ≤ w → w < word_count → WordOf v P w → Written first w P s₀ s → Written first (w + 1) P s₀ (set s w v)
written_more {first} {w} {v} {P} {s₀} {s} l h f g = record {
  long = length-set s w v ∙ g.long;
  bits = λ i. lit_set s w v i (omega (arith, g.long)) ∙ go i (eqb (i / 64) w) refl;
}
  where
    go : (i : ℕ) (b : Bool) → eqb (i / 64) w ≡ b →
        cond b (bit v (i % 64)) (lit s i) ≡ cond (leb (64 * first) i && ltb i (64 * (w + 1))) (P i) (lit s₀ i)
    go i true e =
        let q : i / 64 ≡ w = eqb-true (i / 64) w e in
        let k : 64 * w + i % 64 ≡ i = omega arith in
        rw (le-leb (64 * first) i (omega arith), lt-ltb i (64 * (w + 1)) (omega arith)) (f.bits (i % 64) (omega arith) ∙ ap P k)
    go i false e =
        let n = eqb-false (i / 64) w e in
        let same : ltb i (64 * w) ≡ ltb i (64 * (w + 1)) =
        same_test (ltb i (64 * w)) (ltb i (64 * (w + 1)))
        (λ p. lt-ltb i (64 * (w + 1)) (omega (arith, ltb-true i (64 * w) p)))
        (λ p. lt-ltb i (64 * w) (beside n (ltb-true i (64 * (w + 1)) p))) in
        g.bits i ∙ ap (λ (b : Bool). cond (leb (64 * first) i && b) (P i) (lit s₀ i)) same
      where
        beside : (i / 64 ≡ w → ⊥) → i < 64 * (w + 1) → i < 64 * w
        beside n p = omega arith
