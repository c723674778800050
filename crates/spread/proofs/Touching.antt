-- One touching step and a point in common. Assumes nothing.
use Prim.Native.Nat.{ℕ, ◌<◌}
use mathlib.Core.Path.{◌≡◌, refl, sym, ap, subst, ◌∙◌}
use mathlib.Core.Bool.{Bool, true, false, ◌&&◌, ◌||◌, not}
use mathlib.Core.Logic.{⊎_elim}
use native.Mathlib.Omega.{arith}
use borrow.Author.Tests.{eqb-true}
use lib.Dec.{eqb}
use Rattle.refusal.proofs.Tests.{both, parts, left, right, cases}
use Rattle.cell.specs.Cell.{place, cells}
use Rattle.corner.specs.Corner.{corners, common, touches}
use Rattle.corner.proofs.Common.{shared_common}
use Rattle.walk.specs.Reach.{any_below, grown}
use Rattle.walk.proofs.Reach.{Is, any_in, any_out, grown_zero, grown_step}

-- one touching step from a set, or none: some cell of it has a point in common
pub one_in : (k : ℕ) (A : ℕ → Bool) (c d : ℕ) → c < cells k → d < cells k → Is (A d) →
    Is (common (corners k (place k c)) (corners k (place k d))) → Is (grown (cells k) (touches k) 1 A c)
unfolding touches
one_in k A c d hc hd a m = grown_step (cells k) (touches k) 0 A c hc ∙ go (eqb c d) refl
  where
    near : ℕ → Bool
    near e = touches k c e && grown (cells k) (touches k) 0 A e

    set : Is (grown (cells k) (touches k) 0 A d)
    set = grown_zero (cells k) (touches k) A d hd ∙ a

    go : (t : Bool) → eqb c d ≡ t → Is (grown (cells k) (touches k) 0 A c || any_below (cells k) near)
    go true e = left _ (any_below (cells k) near) (subst (λ (x : ℕ). Is (grown (cells k) (touches k) 0 A x)) (sym (eqb-true c d e)) set)
    go false e = right (grown (cells k) (touches k) 0 A c) _ (any_in (cells k) near d hd (both (touches k c d) _ (both (not (eqb c d)) _ (ap not e) m) set))

pub one_out : (k : ℕ) (A : ℕ → Bool) (c : ℕ) → c < cells k → Is (grown (cells k) (touches k) 1 A c) →
    (d : ℕ) × (d < cells k) × Is (A d) × Is (common (corners k (place k c)) (corners k (place k d)))
unfolding touches
one_out k A c hc g = ⊎_elim
    (λ (z : Is (grown (cells k) (touches k) 0 A c)).
    (c, hc, sym (grown_zero (cells k) (touches k) A c hc) ∙ z, shared_common (corners k (place k c)) (corners k (place k c)) 0 0 (omega arith) (omega arith) refl))
    (λ (s : Is (any_below (cells k) near)).
    let w = any_out (cells k) near s in
    let p = parts (touches k c w.0) (grown (cells k) (touches k) 0 A w.0) w.2 in
    let t = parts (not (eqb c w.0)) (common (corners k (place k c)) (corners k (place k w.0))) p.0 in
    (w.0, w.1, sym (grown_zero (cells k) (touches k) A w.0 w.1) ∙ p.1, t.1))
    (cases (grown (cells k) (touches k) 0 A c) (any_below (cells k) near) (sym (grown_step (cells k) (touches k) 0 A c hc) ∙ g))
  where
    near : ℕ → Bool
    near e = touches k c e && grown (cells k) (touches k) 0 A e
