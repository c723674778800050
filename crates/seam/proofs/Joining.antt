-- Joins of spots of one point, in any number: what was set stays set, and what is set was set at a spot of the same point. Assumes nothing.
use Prim.Native.Nat.{ℕ, zero, suc, ◌<◌}
use mathlib.Core.Path.{◌≡◌, refl, sym, ◌∙◌}
use mathlib.Core.Bool.{Bool, true, false, ◌||◌}
use mathlib.Core.Logic.{⊎_elim}
use native.Mathlib.Omega.{arith}
use Rattle.refusal.proofs.Tests.{clash, left, right, cases}
use Rattle.rows.specs.Rows.{inside}
use Rattle.seam.specs.Seam.{point_at}
use Rattle.seam.specs.inside.Pairs.{join_pair, join_pairs}
use Rattle.seam.proofs.Pairs.{pair_first, pair_second, pair_other, pair_cases}

-- two spots of level k of one point
pub record Same (k i j : ℕ) : Type 0 where
  pub first_inside : inside k i ≡ true
  pub second_inside : inside k j ≡ true
  pub point : point_at k i ≡ point_at k j

-- a spot of the point at spot i that is set
abbrev pub Source : ℕ → (ℕ → Bool) → ℕ → Type 0
Source k P i = (j : ℕ) × (inside k j ≡ true) × (point_at k i ≡ point_at k j) × (P j ≡ true)

-- P' is P after joins of spots of one point
pub record Joining (k : ℕ) (P P' : ℕ → Bool) : Type 0 where
  pub kept : (i : ℕ) → P i ≡ true → P' i ≡ true
  pub from : (i : ℕ) → inside k i ≡ true → P' i ≡ true → Source k P i
  pub stays : (i : ℕ) → inside k i ≡ false → P' i ≡ P i

pub joining_none : (k : ℕ) (P : ℕ → Bool) → Joining k P P
joining_none k P = record { kept = λ i e. e; from = λ i h e. (i, h, refl, e); stays = λ i h. refl }

pub joining_then : {k : ℕ} {P Q R : ℕ → Bool} → Joining k P Q → Joining k Q R → Joining k P R
joining_then {k} {P} {Q} {R} a b = record { kept = λ i e. b.kept i (a.kept i e); from = from; stays = λ i h. b.stays i h ∙ a.stays i h }
  where
    from : (i : ℕ) → inside k i ≡ true → R i ≡ true → Source k P i
    from i h e =
        let v = b.from i h e in
        let w = a.from v.0 v.1 v.3 in
        (w.0, w.1, v.2 ∙ w.2, w.3)

-- one join
module _ (k p q : ℕ) (P : ℕ → Bool) (s : Same k p q) where
  from_either : (i : ℕ) → point_at k i ≡ point_at k p → (P p || P q) ≡ true → Source k P i
  from_either i e t = ⊎_elim
      (λ (a : P p ≡ true). (p, s.first_inside, e, a))
      (λ (b : P q ≡ true). (q, s.second_inside, e ∙ s.point, b))
      (cases (P p) (P q) t)

  pub joining_pair : Joining k P (join_pair p q P)
  joining_pair = record {
    kept = pair_cases (λ (i : ℕ). P i ≡ true → join_pair p q P i ≡ true) p q
        (λ e. pair_first p q P ∙ left (P p) (P q) e)
        (λ e. pair_second p q P ∙ right (P p) (P q) e)
        (λ i n e. pair_other p q P i n ∙ e);
    from = pair_cases (λ (i : ℕ). inside k i ≡ true → join_pair p q P i ≡ true → Source k P i) p q
        (λ h e. from_either p refl (sym (pair_first p q P) ∙ e))
        (λ h e. from_either q (sym s.point) (sym (pair_second p q P) ∙ e))
        (λ i n h e. (i, h, refl, sym (pair_other p q P i n) ∙ e));
    stays = pair_cases (λ (i : ℕ). inside k i ≡ false → join_pair p q P i ≡ P i) p q
        (λ h. clash s.first_inside h)
        (λ h. clash s.second_inside h)
        (λ i n h. pair_other p q P i n);
  }

-- joins one after the other
pub joining_pairs : (k : ℕ) (p q : ℕ → ℕ) (P : ℕ → Bool) (m : ℕ) → ((x : ℕ) → x < m → Same k (p x) (q x)) → Joining k P (join_pairs p q m P)
unfolding join_pairs
joining_pairs k p q P zero f = joining_none k P
joining_pairs k p q P (suc m) f =
    joining_then (joining_pairs k p q P m (λ x h. f x (omega arith))) (joining_pair k (p m) (q m) (join_pairs p q m P) (f m (omega arith)))
