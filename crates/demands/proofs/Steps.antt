-- Touching steps by lists of cells (docs/RULES.md, 5) are the steps that growing and shrinking are defined by. Assumes nothing.
use Prim.Native.Nat.{ℕ, zero, suc, ◌<◌}
use mathlib.Core.Path.{◌≡◌, sym, subst, ◌∙◌}
use mathlib.Core.Bool.{Bool, true}
use mathlib.Core.Logic.{inl, inr, ⊎_elim, ◌↔◌}
use borrow.Author.Tests.{ltb-true, lt-ltb, eq-eqb, eqb-true}
use lib.Dec.{ltb}
use Rattle.refusal.proofs.Tests.{both, parts}
use Rattle.cell.specs.Cell.{cells}
use Rattle.corner.specs.Corner.{touches}
use Rattle.corner.proofs.Laws.{touches_symmetric}
use Rattle.walk.proofs.Walks.{Stepwise, walk_reach}
use Rattle.walk.specs.Reach.{reaches}
use Rattle.grow.specs.Grow.{grown_cells, shrunk_cells}
use Rattle.walk.proofs.Reach.{reach_zero, reach_stay, reach_step, reach_out, reach_sym, grown_in, grown_out, shrunk_in, shrunk_out}
use Rattle.demands.specs.Demand3.{touching_step, AtMostSteps}

module _ (k : ℕ) where
  reach_from : (m c d : ℕ) → d < cells k → (reaches (cells k) (touches k) m c d ≡ true) → Stepwise (touching_step k) m c d
  unfolding Stepwise touching_step
  reach_from zero c d h p = eqb-true c d (sym (reach_zero (cells k) (touches k) c d) ∙ p)
  reach_from (suc m) c d h p = ⊎_elim
      (λ (q : (reaches (cells k) (touches k) m c d ≡ true)). inl (reach_from m c d h q))
      (λ (w : (e : ℕ) × (e < cells k) × (reaches (cells k) (touches k) m c e ≡ true) × (touches k e d ≡ true)).
      let last = both (touches k w.0 d) (ltb d (cells k)) w.3 (lt-ltb d (cells k) h) in
      inr (w.0, reach_from m c w.0 w.1 w.2, last))
      (reach_out (cells k) (touches k) m c d p)

  -- a touching step is one of touching, to a cell of the level
  step_parts : (c d : ℕ) → touching_step k c d ≡ true → (touches k c d ≡ true) × (d < cells k)
  unfolding touching_step
  step_parts c d e = let p = parts (touches k c d) (ltb d (cells k)) e in (p.0, ltb-true d (cells k) p.1)

  below : (m c d : ℕ) → c < cells k → Stepwise (touching_step k) m c d → d < cells k
  unfolding Stepwise
  below zero c d h e = subst (λ (i : ℕ). i < cells k) e h
  below (suc m) c d h (inl r) = below m c d h r
  below (suc m) c d h (inr w) = (step_parts w.0 d w.2).1

  reach_to : (m c d : ℕ) → c < cells k → Stepwise (touching_step k) m c d → (reaches (cells k) (touches k) m c d ≡ true)
  unfolding Stepwise
  reach_to zero c d h e = reach_zero (cells k) (touches k) c d ∙ eq-eqb c d e
  reach_to (suc m) c d h (inl r) = reach_stay (cells k) (touches k) m c d (reach_to m c d h r)
  reach_to (suc m) c d h (inr w) =
      let e = w.0 in
      reach_step (cells k) (touches k) m c e d (below m c e h w.1) (reach_to m c e h w.1) (step_parts e d w.2).0

  -- a list of at most m + 1 cells leads from c to d exactly when d is reached
  pub at_most_reaches : (m c d : ℕ) → c < cells k → d < cells k → AtMostSteps k m c d ↔ (reaches (cells k) (touches k) m c d ≡ true)
  at_most_reaches m c d h l = (
    (λ w. reach_to m c d h ((walk_reach (touching_step k) m c d).0 w)),
    (λ p. (walk_reach (touching_step k) m c d).1 (reach_from m c d l p)),
  )

  -- c is within m of d exactly when d is within m of c
  turned : (m c d : ℕ) → c < cells k → d < cells k → AtMostSteps k m c d → AtMostSteps k m d c
  turned m c d h l w =
      let same = reach_sym (cells k) (touches k) (λ x y _ _. touches_symmetric k x y) m d c l h in
      (at_most_reaches m d c l h).1 (same ∙ (at_most_reaches m c d h l).0 w)

  pub both_ways : (m c d : ℕ) → c < cells k → d < cells k → AtMostSteps k m c d ↔ AtMostSteps k m d c
  both_ways m c d h l = (turned m c d h l, turned m d c l h)

  -- no step leads to another cell
  pub itself : (c d : ℕ) → AtMostSteps k 0 c d ↔ (c ≡ d)
  unfolding Stepwise
  itself c d = walk_reach (touching_step k) 0 c d

  -- a set grown is exactly the cells that reach one of it in at most m touching steps
  pub grown_exactly : (m : ℕ) (A : ℕ → Bool) (c : ℕ) → c < cells k →
      (grown_cells k m A c ≡ true) ↔ ((d : ℕ) × (d < cells k) × (A d ≡ true) × AtMostSteps k m c d)
  grown_exactly m A c h = (
    (λ p. let w = grown_out (cells k) (touches k) m A c p in (w.0, w.1, w.3, (at_most_reaches m c w.0 h w.1).1 w.2)),
    (λ w. grown_in (cells k) (touches k) m A c w.0 w.1 ((at_most_reaches m c w.0 h w.1).0 w.3) w.2),
  )

  -- a set shrunk is exactly the cells from which every cell within m touching steps is in it
  pub shrunk_exactly : (m : ℕ) (A : ℕ → Bool) (c : ℕ) → c < cells k →
      (shrunk_cells k m A c ≡ true) ↔ ((d : ℕ) → d < cells k → AtMostSteps k m c d → (A d ≡ true))
  shrunk_exactly m A c h = (
    (λ p d l w. shrunk_out (cells k) (touches k) m A c p d l ((at_most_reaches m c d h l).0 w)),
    (λ f. shrunk_in (cells k) (touches k) m A c (λ d l p. f d l ((at_most_reaches m c d h l).1 p))),
  )
