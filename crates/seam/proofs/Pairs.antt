-- Pairs of spots joined, one and many: where each spot is read afterwards. Assumes nothing.
use Prim.Native.Nat.{ℕ, zero, suc, ◌<◌}
use mathlib.Core.Path.{◌≡◌, refl, sym, ap, ap₂, subst, fun_ext, ◌∙◌}
use mathlib.Core.Bool.{Bool, true, false, ◌||◌, or-true}
use mathlib.Core.Logic.{◌⊎◌, ⊎_elim}
use native.Mathlib.Nat.{eq-or-lt_of_le, le_of_suc-le-suc}
use native.Mathlib.Omega.{arith}
use borrow.Author.Tests.{eq-eqb, ne_eqb, eqb-true, eqb-false}
use lib.Dec.{eqb}
use Rattle.seam.specs.inside.Pairs.{join_pair, join_pairs}

-- a spot is neither of two
abbrev pub Neither : ℕ → ℕ → ℕ → Type 0
Neither p q i = (i ≡ p → ⊥) × (i ≡ q → ⊥)

-- ---- one pair

pub pair_first : (p q : ℕ) (P : ℕ → Bool) → join_pair p q P p ≡ (P p || P q)
unfolding join_pair
pair_first p q P = rw (eq-eqb p p refl)

pub pair_second : (p q : ℕ) (P : ℕ → Bool) → join_pair p q P q ≡ (P p || P q)
unfolding join_pair
pair_second p q P = rw (eq-eqb q q refl, or-true (eqb q p))

pub pair_other : (p q : ℕ) (P : ℕ → Bool) (i : ℕ) → Neither p q i → join_pair p q P i ≡ P i
unfolding join_pair
pair_other p q P i n = rw (ne_eqb i p n.0, ne_eqb i q n.1)

-- a spot is the first, the second or neither
pub pair_cases : (A : ℕ → Type 0) (p q : ℕ) → A p → A q → ((i : ℕ) → Neither p q i → A i) → (i : ℕ) → A i
pair_cases A p q a b f i = go (eqb i p) (eqb i q) refl refl
  where
    go : (s t : Bool) → eqb i p ≡ s → eqb i q ≡ t → A i
    go true t e d = subst A (sym (eqb-true i p e)) a
    go false true e d = subst A (sym (eqb-true i q d)) b
    go false false e d = f i (eqb-false i p e, eqb-false i q d)

-- what has both where one was, and the rest as it was, is the pair joined
pub pair_is :
    (p q : ℕ) (P P' : ℕ → Bool) → P' p ≡ (P p || P q) → P' q ≡ (P p || P q) → ((i : ℕ) → Neither p q i → P' i ≡ P i)
    → P' ≡ join_pair p q P
pair_is p q P P' a b f = fun_ext (pair_cases (λ (i : ℕ). P' i ≡ join_pair p q P i) p q
    (a ∙ sym (pair_first p q P))
    (b ∙ sym (pair_second p q P))
    (λ i n. f i n ∙ sym (pair_other p q P i n)))

-- ---- pairs, one after the other

-- no spot is in two of the first m pairs
abbrev pub Apart : (ℕ → ℕ) → (ℕ → ℕ) → ℕ → Type 0
Apart p q m = (x y : ℕ) → x < m → y < m → (x ≡ y → ⊥) → Neither (p y) (q y) (p x) × Neither (p y) (q y) (q x)

module _ (p q : ℕ → ℕ) (P : ℕ → Bool) where
  -- a spot of none of the pairs stays
  pub pairs_other : (m i : ℕ) → ((x : ℕ) → x < m → Neither (p x) (q x) i) → join_pairs p q m P i ≡ P i
  unfolding join_pairs
  pairs_other zero i f = refl
  pairs_other (suc m) i f = pair_other (p m) (q m) (join_pairs p q m P) i (f m (omega arith)) ∙ pairs_other m i (λ x h. f x (omega arith))

  -- where no spot is in two pairs, both spots of each pair have what one of them had
  abbrev pub Both : ℕ → ℕ → Type 0
  Both m x = (join_pairs p q m P (p x) ≡ (P (p x) || P (q x))) × (join_pairs p q m P (q x) ≡ (P (p x) || P (q x)))

  pub pairs_both : (m : ℕ) → Apart p q m → (x : ℕ) → x < m → Both m x
  unfolding join_pairs
  pairs_both zero a x h = absurd (omega arith)
  pairs_both (suc m) a x h = ⊎_elim last (before (pairs_both m (λ y z hy hz. a y z (omega arith) (omega arith)))) (eq-or-lt_of_le (le_of_suc-le-suc h))
    where
      Q : ℕ → Bool
      Q = join_pairs p q m P

      same : (Q (p m) || Q (q m)) ≡ (P (p m) || P (q m))
      same = ap₂ (λ (s t : Bool). s || t)
          (pairs_other m (p m) (λ y l. (a m y (omega arith) (omega arith) (λ (e : m ≡ y). omega arith)).0))
          (pairs_other m (q m) (λ y l. (a m y (omega arith) (omega arith) (λ (e : m ≡ y). omega arith)).1))

      last : x ≡ m → Both (suc m) x
      last e = subst (Both (suc m)) (sym e) (pair_first (p m) (q m) Q ∙ same, pair_second (p m) (q m) Q ∙ same)

      before : ((x : ℕ) → x < m → Both m x) → x < m → Both (suc m) x
      before f l =
          let n = a x m (omega arith) (omega arith) (λ (e : x ≡ m). omega arith) in
          let b = f x l in
          (pair_other (p m) (q m) Q (p x) n.0 ∙ b.0, pair_other (p m) (q m) Q (q x) n.1 ∙ b.1)

  -- read at one of the two spots, whichever it is
  pub pairs_at : (m : ℕ) → Apart p q m → (x : ℕ) → x < m → (i : ℕ) → (i ≡ p x) ⊎ (i ≡ q x) → join_pairs p q m P i ≡ (P (p x) || P (q x))
  pairs_at m a x h i = ⊎_elim
      (λ (e : i ≡ p x). ap (join_pairs p q m P) e ∙ (pairs_both m a x h).0)
      (λ (e : i ≡ q x). ap (join_pairs p q m P) e ∙ (pairs_both m a x h).1)
