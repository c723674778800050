-- Walks: lists of at most m + 1 cells (docs/RULES.md, 5), and the cells reached step by step, are the same. Assumes nothing.
use Prim.Native.Nat.{ℕ, zero, suc, ◌+◌, ◌≤◌}
use mathlib.Core.Path.{◌≡◌, refl, sym, subst}
use mathlib.Core.Bool.{Bool, true}
use mathlib.Core.List.{List, [], ◌∷◌, ◌++◌}
use mathlib.Core.Logic.{◌⊎◌, inl, inr, ◌↔◌}
use native.Mathlib.Omega.{arith}
use lib.ListN.{length, length-append}
use Rattle.walk.specs.Walk.{Linked, last, Walk}

-- the same step by step: in no step c itself; in one step more what was reached, and what a step leads to from a cell that was reached
unfoldable pub Stepwise : (ℕ → ℕ → Bool) → ℕ → ℕ → ℕ → Type 0
Stepwise R zero c d = c ≡ d
Stepwise R (suc m) c d = Stepwise R m c d ⊎ ((e : ℕ) × Stepwise R m c e × (R e d ≡ true))

module _ (R : ℕ → ℕ → Bool) where
  -- ---- from a list to steps

  -- no step is needed to stay
  reach_here : (m c : ℕ) → Stepwise R m c c
  unfolding Stepwise
  reach_here zero c = refl
  reach_here (suc m) c = inl (reach_here m c)

  -- one step before the others
  reach_before : (m c e d : ℕ) → R c e ≡ true → Stepwise R m e d → Stepwise R (suc m) c d
  unfolding Stepwise
  reach_before zero c e d t r = inr (c, refl, subst (λ (x : ℕ). R c x ≡ true) r t)
  reach_before (suc m) c e d t (inl r) = inl (reach_before m c e d t r)
  reach_before (suc m) c e d t (inr r) = inr (r.0, reach_before m c e r.0 t r.1, r.2)

  list_reach : (m c : ℕ) (ds : List ℕ) → length (c ∷ ds) ≤ m + 1 → Linked R c ds → Stepwise R m c (last c ds)
  list_reach m c [] h l = reach_here m c
  list_reach zero c (e ∷ es) h l = absurd (omega arith)
  list_reach (suc m) c (e ∷ es) h l = reach_before m c e (last e es) l.0 (list_reach m e es (omega arith) l.1)

  -- ---- from steps to a list

  linked_snoc : (c : ℕ) (ds : List ℕ) (d : ℕ) → Linked R c ds → R (last c ds) d ≡ true → Linked R c (ds ++ (d ∷ []))
  linked_snoc c [] d l t = (t, tt)
  linked_snoc c (e ∷ es) d l t = (l.0, linked_snoc e es d l.1 t)

  last_snoc : (c : ℕ) (ds : List ℕ) (d : ℕ) → last c (ds ++ (d ∷ [])) ≡ d
  last_snoc c [] d = refl
  last_snoc c (e ∷ es) d = last_snoc e es d

  reach_list : (m c d : ℕ) → Stepwise R m c d → Walk R m c d
  unfolding Stepwise
  reach_list zero c d e = record { rest = []; few = omega arith; linked = tt; ends = e }
  reach_list (suc m) c d (inl r) =
      let w = reach_list m c d r in
      record { rest = w.rest; few = omega (arith, w.few); linked = w.linked; ends = w.ends }
  reach_list (suc m) c d (inr r) =
      let w = reach_list m c r.0 r.1 in
      record {
        rest = w.rest ++ (d ∷ []);
        few = omega (arith, w.few, length-append w.rest (d ∷ []));
        linked = linked_snoc c w.rest d w.linked (subst (λ (x : ℕ). R x d ≡ true) (sym w.ends) r.2);
        ends = last_snoc c w.rest d;
      }

  -- there is a walk of at most m steps from c to d exactly when d is reached from c in m steps
  pub walk_reach : (m c d : ℕ) → Walk R m c d ↔ Stepwise R m c d
  walk_reach m c d = (
    λ w. subst (Stepwise R m c) w.ends (list_reach m c w.rest w.few w.linked),
    reach_list m c d,
  )
