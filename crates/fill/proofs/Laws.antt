-- What a fill is (docs/RULES.md, 6.2), over the definition that the call's contract cites. Assumes nothing.
use Prim.Native.Nat.{ℕ, zero, suc, ◌+◌, ◌^◌, ◌<◌}
use mathlib.Core.Path.{◌≡◌, refl, sym, ap, subst, ◌∙◌}
use mathlib.Core.Bool.{Bool, true, false, not}
use mathlib.Core.List.{List}
use mathlib.Core.Logic.{inl, inr, ⊎_elim, ◌↔◌}
use mathlib.Core.Option.{Option, none, some}
use borrow.Author.Tests.{eqb-true, eq-eqb, not-true, not-false}
use Rattle.refusal.specs.Answer.{given, done}
use Rattle.refusal.proofs.Tests.{clash, same_test, both, parts}
use Rattle.bitset.specs.Bits.{marked, outside}
use Rattle.bitset.proofs.Laws.{marked_bytes_of, bytes_of_cong}
use Rattle.cell.specs.Cell.{place, cells}
use Rattle.cell.proofs.Laws.{place_occurs, number_below, number_place}
use Rattle.code.specs.Step.{code_to}
use Rattle.code.specs.Neighbours.{is_direct, direct_code}
use Rattle.code.proofs.Laws.{code_step, step_occurs, direct_mutual}
use Rattle.walk.specs.Reach.{reaches}
use Rattle.walk.proofs.Walks.{Stepwise, walk_reach}
use Rattle.walk.proofs.Reach.{reach_zero, reach_self, reach_stay, reach_step, reach_out, reach_trans}
use Rattle.walk.proofs.Closure.{closure}
use Rattle.fill.specs.Fill.{open_step, Reachable, reachable, unreached, fill_call}
use Rattle.fill.proofs.Answers.{Ready, ready, filled_bytes}

-- ---- direct steps lead to cells of the level

direct_below : (k c d : ℕ) → c < cells k → is_direct k c d ≡ true → d < cells k
unfolding is_direct direct_code
direct_below k c d h e = go (code_to k d (place k c)) refl e
  where
    go : (s : Option ℕ) → code_to k d (place k c) ≡ s → direct_code s ≡ true → d < cells k
    go none q p = clash p refl
    go (some x) q p =
        let s = (code_step k d (place k c) x (place_occurs k c h)).0 q in
        let o = step_occurs k (place k c) x (place k d) (place_occurs k c h) s in
        subst (λ (i : ℕ). i < cells k) (number_place k d) (number_below k (place k d) o)

-- and lead back
direct_back : (k c d : ℕ) → c < cells k → d < cells k → is_direct k c d ≡ true → is_direct k d c ≡ true
unfolding is_direct direct_code
direct_back k c d hc hd e = go (code_to k d (place k c)) refl e
  where
    go : (s : Option ℕ) → code_to k d (place k c) ≡ s → direct_code s ≡ true → direct_code (code_to k c (place k d)) ≡ true
    go none q p = clash p refl
    go (some x) q p =
        let s = (code_step k d (place k c) x (place_occurs k c hc)).0 q in
        let w = direct_mutual k (place k c) (place k d) (place_occurs k c hc) (x, p, s) in
        ap direct_code ((code_step k c (place k d) w.0 (place_occurs k d hd)).1 w.2) ∙ w.1

module _ (k : ℕ) (A : ℕ → Bool) where
  step_direct : (c d : ℕ) → open_step k A c d ≡ true → is_direct k c d ≡ true
  unfolding open_step
  step_direct c d e = (parts (is_direct k c d) _ e).0

  step_unmarked : (c d : ℕ) → open_step k A c d ≡ true → A d ≡ false
  unfolding open_step
  step_unmarked c d e = not-true (A d) (parts (is_direct k c d) (not (A d)) e).1

  -- ---- lists of cells and the computed test agree

  R : ℕ → ℕ → Bool
  R = open_step k A

  stepwise_below : (m c d : ℕ) → c < cells k → Stepwise R m c d → d < cells k
  unfolding Stepwise R
  stepwise_below zero c d h e = subst (λ (i : ℕ). i < cells k) e h
  stepwise_below (suc m) c d h (inl r) = stepwise_below m c d h r
  stepwise_below (suc m) c d h (inr w) = direct_below k w.0 d (stepwise_below m c w.0 h w.1) (step_direct w.0 d w.2)

  stepwise_reaches : (m c d : ℕ) → c < cells k → Stepwise R m c d → reaches (cells k) R m c d ≡ true
  unfolding Stepwise
  stepwise_reaches zero c d h e = reach_zero (cells k) R c d ∙ eq-eqb c d e
  stepwise_reaches (suc m) c d h (inl r) = reach_stay (cells k) R m c d (stepwise_reaches m c d h r)
  stepwise_reaches (suc m) c d h (inr w) =
      let e = w.0 in
      reach_step (cells k) R m c e d (stepwise_below m c e h w.1) (stepwise_reaches m c e h w.1) w.2

  reaches_stepwise : (m c d : ℕ) → reaches (cells k) R m c d ≡ true → Stepwise R m c d
  unfolding Stepwise
  reaches_stepwise zero c d p = eqb-true c d (sym (reach_zero (cells k) R c d) ∙ p)
  reaches_stepwise (suc m) c d p = ⊎_elim
      (λ (q : reaches (cells k) R m c d ≡ true). inl (reaches_stepwise m c d q))
      (λ (w : (e : ℕ) × (e < cells k) × (reaches (cells k) R m c e ≡ true) × (R e d ≡ true)). inr (w.0, reaches_stepwise m c w.0 w.2, w.3))
      (reach_out (cells k) R m c d p)

  pub reachable_exactly : (o c : ℕ) → o < cells k → c < cells k → (reachable k A o c ≡ true) ↔ Reachable k A o c
  unfolding reachable R
  reachable_exactly o c ho hc = (
    (λ p. (cells k, (walk_reach R (cells k) o c).1 (reaches_stepwise (cells k) o c p))),
    (λ w. closure (cells k) R o ho w.0 c hc (stepwise_reaches w.0 o c ho ((walk_reach R w.0 o c).0 w.1))),
  )

  -- ---- laws of reaching

  pub reachable_self : (o : ℕ) → reachable k A o o ≡ true
  unfolding reachable R
  reachable_self o = reach_self (cells k) R (cells k) o

  pub reachable_step : (o c d : ℕ) → o < cells k → c < cells k → d < cells k → reachable k A o c ≡ true → open_step k A c d ≡ true → reachable k A o d ≡ true
  unfolding reachable R
  reachable_step o c d ho hc hd p q = closure (cells k) R o ho (suc (cells k)) d hd (reach_step (cells k) R (cells k) o c d hc p q)

  pub reachable_trans : (o p c : ℕ) → o < cells k → c < cells k → reachable k A o p ≡ true → reachable k A p c ≡ true → reachable k A o c ≡ true
  unfolding reachable R
  reachable_trans o p c ho hc x y = closure (cells k) R o ho (cells k + cells k) c hc (reach_trans (cells k) R (cells k) (cells k) o p c x y)

  -- what is reached, but for the first, is unmarked
  reached_unmarked : (m o c : ℕ) → A o ≡ false → reaches (cells k) R m o c ≡ true → A c ≡ false
  unfolding R
  reached_unmarked zero o c z p = ap A (sym (eqb-true o c (sym (reach_zero (cells k) R o c) ∙ p))) ∙ z
  reached_unmarked (suc m) o c z p = ⊎_elim
      (λ (q : reaches (cells k) R m o c ≡ true). reached_unmarked m o c z q)
      (λ (w : (e : ℕ) × (e < cells k) × (reaches (cells k) R m o e ≡ true) × (open_step k A e c ≡ true)). step_unmarked w.0 c w.3)
      (reach_out (cells k) R m o c p)

  pub reachable_unmarked : (o c : ℕ) → A o ≡ false → reachable k A o c ≡ true → A c ≡ false
  unfolding reachable R
  reachable_unmarked o c z p = reached_unmarked (cells k) o c z p

  -- and what reaches a cell is reached from it, where the first is unmarked too
  reached_back : (m o c : ℕ) → o < cells k → c < cells k → A o ≡ false → reaches (cells k) R m o c ≡ true → reachable k A c o ≡ true
  unfolding R open_step
  reached_back zero o c ho hc z p = rw (eqb-true o c (sym (reach_zero (cells k) R o c) ∙ p)) (reachable_self c)
  reached_back (suc m) o c ho hc z p = ⊎_elim
      (λ (q : reaches (cells k) R m o c ≡ true). reached_back m o c ho hc z q)
      (λ (w : (e : ℕ) × (e < cells k) × (reaches (cells k) R m o e ≡ true) × (open_step k A e c ≡ true)).
      let e = w.0 in
      let back = direct_back k e c w.1 hc (step_direct e c w.3) in
      let opened = both (is_direct k c e) (not (A e)) back (ap not (reached_unmarked m o e z w.2)) in
      reachable_trans c e o hc ho (reachable_step c c e hc hc w.1 (reachable_self c) opened) (reached_back m o e ho w.1 z w.2))
      (reach_out (cells k) R m o c p)

  pub reachable_back : (o c : ℕ) → o < cells k → c < cells k → A o ≡ false → reachable k A o c ≡ true → reachable k A c o ≡ true
  unfolding reachable R
  reachable_back o c ho hc z p = reached_back (cells k) o c ho hc z p

-- ---- the fill

module _ (k : ℕ) (a : List ℕ) (o : ℕ) (out : List ℕ) (accepted : (fill_call k a o out).0 ≡ given done) where
  r : Ready k a o out
  r = ready k a o out (sym accepted)

  -- a cell is marked exactly when it can't be reached
  pub fill_marks : (c : ℕ) → c < cells k → marked (fill_call k a o out).1 c ≡ not (reachable k (marked a) o c)
  unfolding outside
  fill_marks c h = ap (λ (l : List ℕ). marked l c) (filled_bytes k a o out accepted) ∙ marked_bytes_of (4 ^ k) (unreached k (marked a) o) c h

  pub fill_exactly : (c : ℕ) → c < cells k → (marked (fill_call k a o out).1 c ≡ true) ↔ (Reachable k (marked a) o c → ⊥)
  fill_exactly c h =
      let x = reachable_exactly k (marked a) o c r.cell h in (
        (λ p w. clash (x.1 w) (not-true (reachable k (marked a) o c) (sym (fill_marks c h) ∙ p))),
        (λ f. fill_marks c h ∙ refuted (reachable k (marked a) o c) (λ p. f (x.0 p))),
      )
    where
      refuted : (b : Bool) → (b ≡ true → ⊥) → not b ≡ true
      refuted true f = absurd (f refl)
      refuted false f = refl

  -- the border is in the fill, and the outside cell is not
  pub border_filled : (c : ℕ) → c < cells k → marked a c ≡ true → marked (fill_call k a o out).1 c ≡ true
  border_filled c h p = (fill_exactly c h).1 (λ w.
      let there = (reachable_exactly k (marked a) o c r.cell h).1 w in
      clash p (reachable_unmarked k (marked a) o c r.unmarked there))

  pub outside_not_filled : marked (fill_call k a o out).1 o ≡ false
  outside_not_filled = fill_marks o r.cell ∙ ap not (reachable_self k (marked a) o)

-- two calls write the same where the cells reached are the same
same_fill : (k : ℕ) (a b : List ℕ) (o p : ℕ) (out out' : List ℕ) → (fill_call k a o out).0 ≡ given done → (fill_call k b p out').0 ≡ given done →
    ((c : ℕ) → c < cells k → (reachable k (marked a) o c ≡ true) ↔ (reachable k (marked b) p c ≡ true)) →
    (fill_call k a o out).1 ≡ (fill_call k b p out').1
unfolding outside
same_fill k a b o p out out' x y same =
    filled_bytes k a o out x
    ∙ bytes_of_cong (4 ^ k) (unreached k (marked a) o) (unreached k (marked b) p)
    (λ c h. ap not (same_test (reachable k (marked a) o c) (reachable k (marked b) p c) (same c h).0 (same c h).1))
    ∙ sym (filled_bytes k b p out' y)

-- two outside cells of which one reaches the other give the same fill
pub fill_shared : (k : ℕ) (a : List ℕ) (o p : ℕ) (out out' : List ℕ) → (fill_call k a o out).0 ≡ given done → (fill_call k a p out').0 ≡ given done →
    Reachable k (marked a) o p → (fill_call k a o out).1 ≡ (fill_call k a p out').1
fill_shared k a o p out out' x y w =
    let r = ready k a o out (sym x) in
    let s = ready k a p out' (sym y) in
    let there = (reachable_exactly k (marked a) o p r.cell s.cell).1 w in
    let back = reachable_back k (marked a) o p r.cell s.cell r.unmarked there in
    same_fill k a a o p out out' x y (λ c h. (
      (λ q. reachable_trans k (marked a) p o c s.cell h back q),
      (λ q. reachable_trans k (marked a) o p c r.cell h there q),
    ))

-- the fill of a fill's own mask from the same outside cell is that mask
module _ (k : ℕ) (a : List ℕ) (o : ℕ) (out out' : List ℕ) (first : (fill_call k a o out).0 ≡ given done) where
  abbrev f : List ℕ
  f = (fill_call k a o out).1

  s : Ready k a o out
  s = ready k a o out (sym first)

  -- what is reached through the border's open cells is reached through the fill's
  kept : (m c : ℕ) → c < cells k → reaches (cells k) (open_step k (marked a)) m o c ≡ true → reachable k (marked f) o c ≡ true
  unfolding open_step reachable
  kept zero c h p = rw (sym (eqb-true o c (sym (reach_zero (cells k) (open_step k (marked a)) o c) ∙ p))) (reachable_self k (marked f) o)
  kept (suc m) c h p = ⊎_elim
      (λ (q : reaches (cells k) (open_step k (marked a)) m o c ≡ true). kept m c h q)
      (λ (w : (e : ℕ) × (e < cells k) × (reaches (cells k) (open_step k (marked a)) m o e ≡ true) × (open_step k (marked a) e c ≡ true)).
      let there = closure (cells k) (open_step k (marked a)) o s.cell (suc m) c h p in
      let unfilled : marked f c ≡ false = fill_marks k a o out first c h ∙ ap not there in
      let direct = step_direct k (marked a) w.0 c w.3 in
      let opened = both (is_direct k w.0 c) (not (marked f c)) direct (ap not unfilled) in
      reachable_step k (marked f) o w.0 c s.cell w.1 h (kept m w.0 w.1 w.2) opened)
      (reach_out (cells k) (open_step k (marked a)) m o c p)

  pub fill_again : (fill_call k f o out').0 ≡ given done → (fill_call k f o out').1 ≡ f
  unfolding reachable
  fill_again second = sym (same_fill k a f o o out out' first second (λ c h. (
    (λ q. kept (cells k) c h q),
    (λ q.
        let unfilled = reachable_unmarked k (marked f) o c (outside_not_filled k a o out first) q in
        not-false (reachable k (marked a) o c) (sym (fill_marks k a o out first c h) ∙ unfilled)),
  )))
