-- What can be reached at all among M numbers is reached in M steps: with each step more at least one number more is reached, or none ever again.
-- Assumes nothing.
use Prim.Native.Nat.{ℕ, zero, suc, ◌+◌, ◌≤◌, ◌<◌}
use mathlib.Core.Path.{◌≡◌, refl, sym, ap, ◌∙◌}
use mathlib.Core.Bool.{Bool, true, false, ◌&&◌, not, cond}
use mathlib.Core.Logic.{◌⊎◌, inl, inr, ⊎_elim}
use native.Mathlib.Nat.{le_of_suc-le-suc, eq-or-lt_of_le, add-zero, add-suc}
use native.Mathlib.Omega.{arith}
use borrow.Author.Tests.{not-true}
use Rattle.refusal.proofs.Tests.{clash, both, parts}
use Rattle.bitset.specs.Bits.{size}
use Rattle.bitset.proofs.Laws.{size_le}
use Rattle.walk.specs.Reach.{any_below, reaches}
use Rattle.walk.proofs.Reach.{any_in, any_out, reach_stay, reach_step, reach_out, reach_self, reach_more}

-- a set within another has no more members, and fewer where a member of the other is missing
module _ (P Q : ℕ → Bool) where
  size_within : (n : ℕ) → ((c : ℕ) → c < n → P c ≡ true → Q c ≡ true) → size n P ≤ size n Q
  unfolding size
  size_within zero f = omega arith
  size_within (suc n) f = go (P n) (Q n) (f n (omega arith)) (size_within n (λ c h. f c (omega arith)))
    where
      go : (p q : Bool) → (p ≡ true → q ≡ true) → size n P ≤ size n Q → size n P + cond p 1 0 ≤ size n Q + cond q 1 0
      go true true g h = omega arith
      go true false g h = clash (g refl) refl
      go false true g h = omega arith
      go false false g h = omega arith

  pub size_less : (n : ℕ) → ((c : ℕ) → c < n → P c ≡ true → Q c ≡ true) → (d : ℕ) → d < n → P d ≡ false → Q d ≡ true → size n P < size n Q
  unfolding size
  size_less zero f d h p q = absurd (omega arith)
  size_less (suc n) f d h p q = ⊎_elim
      (λ (e : d ≡ n). at-end (sym (ap P e) ∙ p) (sym (ap Q e) ∙ q))
      (λ (l : d < n). go (P n) (Q n) (f n (omega arith)) (size_less n (λ c u. f c (omega arith)) d l p q))
      (eq-or-lt_of_le (le_of_suc-le-suc h))
    where
      at-end : P n ≡ false → Q n ≡ true → size n P + cond (P n) 1 0 < size n Q + cond (Q n) 1 0
      at-end x y = rw (x, y) (omega (arith, size_within n (λ c u. f c (omega arith))))

      go : (p q : Bool) → (p ≡ true → q ≡ true) → size n P < size n Q → size n P + cond p 1 0 < size n Q + cond q 1 0
      go true true g h = omega arith
      go true false g h = clash (g refl) refl
      go false true g h = omega arith
      go false false g h = omega arith

module _ (M : ℕ) (R : ℕ → ℕ → Bool) (c : ℕ) (hc : c < M) where
  -- the numbers reached in i steps, and whether one step more reaches another
  S : ℕ → ℕ → Bool
  S i d = reaches M R i c d

  more : ℕ → Bool
  more i = any_below M (λ d. S (suc i) d && not (S i d))

  no_more : (i d : ℕ) → more i ≡ false → d < M → S (suc i) d ≡ true → S i d ≡ true
  unfolding more
  no_more i d e h p = go (S i d) refl
    where
      go : (b : Bool) → S i d ≡ b → b ≡ true
      go true q = refl
      go false q = clash (any_in M (λ x. S (suc i) x && not (S i x)) d h (both (S (suc i) d) (not (S i d)) p (ap not q))) e

  -- where no step more does, none ever does
  stable : (i : ℕ) → more i ≡ false → (n d : ℕ) → d < M → S (i + n) d ≡ true → S i d ≡ true
  unfolding S
  stable i e zero d h p = rw add-zero at p
  stable i e (suc n) d h p = ⊎_elim
      (λ (q : reaches M R (i + n) c d ≡ true). stable i e n d h q)
      (λ (w : (x : ℕ) × (x < M) × (reaches M R (i + n) c x ≡ true) × (R x d ≡ true)).
      no_more i d e h (reach_step M R i c w.0 d w.1 (stable i e n w.0 w.1 w.2) w.3))
      (reach_out M R (i + n) c d (rw (add-suc i n) at p))

  -- so after i steps more than i numbers are reached, or no step adds any
  grows : (i : ℕ) → (i < size M (S i)) ⊎ ((j : ℕ) × (j ≤ i) × (more j ≡ false))
  unfolding S more
  grows zero = inl (omega (arith, size_less (λ x. false) (S 0) M (λ x h p. clash p refl) c hc refl (reach_self M R 0 c)))
  grows (suc i) = ⊎_elim
      (λ (l : i < size M (S i)). go l (more i) refl)
      (λ (w : (j : ℕ) × (j ≤ i) × (more j ≡ false)). inr (w.0, omega (arith, w.1), w.2))
      (grows i)
    where
      go : i < size M (S i) → (b : Bool) → more i ≡ b → (suc i < size M (S (suc i))) ⊎ ((j : ℕ) × (j ≤ suc i) × (more j ≡ false))
      go l true e =
          let w = any_out M (λ d. S (suc i) d && not (S i d)) e in
          let p = parts (S (suc i) w.0) (not (S i w.0)) w.2 in
          inl (omega (arith, size_less (S i) (S (suc i)) M (λ d h q. reach_stay M R i c d q) w.0 w.1 (not-true (S i w.0) p.1) p.0))
      go l false e = inr (i, omega arith, e)

  -- what is reached in any number of steps is reached in M
  pub closure : (m d : ℕ) → d < M → reaches M R m c d ≡ true → reaches M R M c d ≡ true
  unfolding S
  closure m d h p = ⊎_elim
      (λ (l : M < size M (S M)). absurd (omega (arith, size_le M (S M))))
      (λ (w : (j : ℕ) × (j ≤ M) × (more j ≡ false)).
      let there = reach_more M R m (w.0 + m) c d (omega arith) p in
      reach_more M R w.0 M c d w.1 (stable w.0 w.2 m d h there))
      (grows M)
