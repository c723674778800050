-- What the answer of `within` says of the two masks. Assumes nothing.
use Prim.Native.Nat.{ℕ, zero, suc, ◌+◌, ◌^◌, ◌≤◌, ◌<◌}
use mathlib.Core.Path.{◌≡◌, refl, sym, ap, subst, ◌∙◌}
use mathlib.Core.Bool.{Bool, true, false, ◌&&◌, not, cond}
use mathlib.Core.List.{List}
use mathlib.Core.Logic.{⊎_elim, ◌↔◌}
use native.Mathlib.Nat.{eq-or-lt_of_le}
use native.Mathlib.Omega.{arith}
use borrow.Author.Tests.{le-ltb, eq-eqb}
use lib.ListN.{length}
use Rattle.refusal.specs.Answer.{given}
use Rattle.refusal.proofs.Answers.{given_same}
use Rattle.refusal.proofs.Tests.{clash}
use Rattle.bitset.specs.Bits.{marked}
use Rattle.cell.specs.Cell.{cells}
use Rattle.mask.specs.Mask.{max_mask_level, within, lacks, lowest, difference, within_call}
use Rattle.mask.proofs.Laws.{lowest_none}

-- a cell is no answer `within`
lacks_some : {A : Type 0} {c : ℕ} → lacks c ≡ within → A
lacks_some e = absurd (cc)

-- where none is the lowest, none is in the set
none_lowest : (P : ℕ → Bool) (j m : ℕ) → lowest P j m ≡ within → (c : ℕ) → m ≤ c → c < m + j → P c ≡ false
unfolding lowest
none_lowest P zero m e c h l = absurd (omega arith)
none_lowest P (suc j) m e c h l = go (P m) refl (none_lowest P j (suc m)) e
  where
    go : (t : Bool) → P m ≡ t →
        (lowest P j (suc m) ≡ within → (c : ℕ) → suc m ≤ c → c < suc m + j → P c ≡ false) →
        cond t (lacks m) (lowest P j (suc m)) ≡ within → P c ≡ false
    go true p ih e = lacks_some e
    go false p ih e = ⊎_elim
        (λ (q : m ≡ c). subst (λ (i : ℕ). P i ≡ false) q p)
        (λ (q : m < c). ih e c q (omega arith))
        (eq-or-lt_of_le h)

-- where m is the lowest, it is in the set and none before it is; and such a number is the lowest
lowest_found : (P : ℕ → Bool) (j m c : ℕ) → lowest P j m ≡ lacks c →
    (m ≤ c) × (c < m + j) × (P c ≡ true) × ((d : ℕ) → m ≤ d → d < c → P d ≡ false)
unfolding lowest
lowest_found P zero m c e = lacks_some (sym e)
lowest_found P (suc j) m c e = go (P m) refl (lowest_found P j (suc m) c) e
  where
    Found : ℕ → Type 0
    Found c = (m ≤ c) × (c < m + suc j) × (P c ≡ true) × ((d : ℕ) → m ≤ d → d < c → P d ≡ false)

    go : (t : Bool) → P m ≡ t →
        (lowest P j (suc m) ≡ lacks c → (suc m ≤ c) × (c < suc m + j) × (P c ≡ true) × ((d : ℕ) → suc m ≤ d → d < c → P d ≡ false)) →
        cond t (lacks m) (lowest P j (suc m)) ≡ lacks c → Found c
    go true p ih e = let same : m ≡ c = cc in subst Found same (omega arith, omega arith, p, λ d l u. absurd (omega arith))
    go false p ih e =
        let r = ih e in (
          omega (arith, r.0),
          omega (arith, r.1),
          r.2,
          λ d l u. ⊎_elim (λ (q : m ≡ d). subst (λ (i : ℕ). P i ≡ false) q p) (λ (q : m < d). r.3 d q u) (eq-or-lt_of_le l),
        )

found_lowest : (P : ℕ → Bool) (j m c : ℕ) → m ≤ c → c < m + j → P c ≡ true → ((d : ℕ) → m ≤ d → d < c → P d ≡ false) → lowest P j m ≡ lacks c
unfolding lowest
found_lowest P zero m c h l p f = absurd (omega arith)
found_lowest P (suc j) m c h l p f = ⊎_elim
    (λ (q : m ≡ c). rw (q, p))
    (λ (q : m < c). rw (f m (omega arith) q) (found_lowest P j (suc m) c q (omega arith) p (λ d u v. f d (omega arith) v)))
    (eq-or-lt_of_le h)

lacks_none : (x y : Bool) → (x && not y) ≡ false → x ≡ true → y ≡ true
lacks_none x true e p = refl
lacks_none true false e p = sym e
lacks_none false false e p = p

none_lacks : (x y : Bool) → (x ≡ true → y ≡ true) → (x && not y) ≡ false
none_lacks true y f = ap not (f refl)
none_lacks false y f = refl

-- one that lacks is marked in the first mask and not in the second
lacks_one : (x y : Bool) → (x && not y) ≡ true → (x ≡ true) × (y ≡ false)
lacks_one true false e = (refl, refl)
lacks_one true true e = clash e refl
lacks_one false y e = clash e refl

one_lacks : (x y : Bool) → x ≡ true → y ≡ false → (x && not y) ≡ true
one_lacks x y p q = rw (p, q)

module _ (k : ℕ) (a b : List ℕ) (h : k ≤ max_mask_level) (p : length a ≡ 4 ^ k) (q : length b ≡ 4 ^ k) where
  -- two masks of a level are not refused
  pub within_answers : within_call k a b ≡ given (lowest (difference (marked a) (marked b)) (cells k) 0)
  within_answers = rw (le-ltb max_mask_level k h, eq-eqb (length a) (4 ^ k) p, eq-eqb (length b) (4 ^ k) q) refl

  -- it is `within` exactly when every cell marked in the first mask is marked in the second
  pub within_exactly : (within_call k a b ≡ given within) ↔ ((c : ℕ) → c < cells k → marked a c ≡ true → marked b c ≡ true)
  unfolding difference
  within_exactly = (
    (λ e c l.
        let none = none_lowest (difference (marked a) (marked b)) (cells k) 0 (given_same (sym within_answers ∙ e)) c (omega arith) (omega arith) in
        lacks_none (marked a c) (marked b c) none),
    (λ f.
        within_answers
        ∙ ap given (lowest_none (difference (marked a) (marked b)) (cells k) 0 (λ c l. none_lacks (marked a c) (marked b c) (f c (omega arith))))),
  )

  -- and `lacks c` exactly when c is the lowest cell that is marked in the first and not in the second
  pub lacks_exactly : (c : ℕ) →
      (within_call k a b ≡ given (lacks c)) ↔
      ((c < cells k) × (marked a c ≡ true) × (marked b c ≡ false) × ((d : ℕ) → d < c → marked a d ≡ true → marked b d ≡ true))
  unfolding difference
  lacks_exactly c = (
    (λ e.
        let r = lowest_found (difference (marked a) (marked b)) (cells k) 0 c (given_same (sym within_answers ∙ e)) in
        let one = lacks_one (marked a c) (marked b c) r.2 in
        (omega (arith, r.1), one.0, one.1, λ d l. lacks_none (marked a d) (marked b d) (r.3 d (omega arith) l))),
    (λ w.
        within_answers
        ∙ ap given (found_lowest (difference (marked a) (marked b)) (cells k) 0 c (omega arith) (omega arith) (one_lacks (marked a c) (marked b c) w.1 w.2)
        (λ d l u. none_lacks (marked a d) (marked b d) (w.3 d u)))),
  )
