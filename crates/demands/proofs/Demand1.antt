-- Demand 1 holds: the first test that applies is the lowest, since the numbers of each call's tests rise. Assumes nothing.
use Prim.Native.Nat.{ℕ, ◌≤◌}
use mathlib.Core.Path.{◌≡◌, refl, sym, ◌∙◌}
use mathlib.Core.Bool.{Bool, true, false, ◌&&◌}
use mathlib.Core.List.{List, [], ◌∷◌}
use mathlib.Core.Logic.{inl, inr, ⊎_elim, ◌↔◌}
use native.Mathlib.Nat.{le_antisymm, le_of_eq, le_trans}
use native.Mathlib.Omega.{arith}
use borrow.Author.Tests.{leb-true}
use lib.Dec.{leb}
use Rattle.refusal.specs.Answer.{Answer, given, Test, ◌when◌, in_order, lending, First}
use Rattle.refusal.proofs.Answers.{Passed, gives, passed, refuses, first}
use Rattle.refusal.proofs.Tests.{clash, parts}
use Rattle.demands.proofs.Numbers.{read_number}
use Rattle.demands.specs.Demand1.{Applies, Lowest, ByTests, Lends, LentByTests, InOrder, Demand1}

-- the numbers of a list of tests rise from m on
rises : ℕ → List Test → Bool
rises m [] = true
rises m ((n when b) ∷ ts) = leb m n && rises n ts

no_lower : (m : ℕ) (ts : List Test) → rises m ts ≡ true → (n : ℕ) → Applies n ts → m ≤ n
unfolding rises
no_lower m [] r n a = absurd a
no_lower m ((i when b) ∷ ts) r n (inl a) = let p = parts (leb m i) (rises i ts) r in omega (arith, leb-true m i p.0, a.0)
no_lower m ((i when b) ∷ ts) r n (inr a) =
    let p = parts (leb m i) (rises i ts) r in
    le_trans (leb-true m i p.0) (no_lower i ts p.1 n a)

-- the first that applies is the lowest, and the lowest the first
first_lowest : (m : ℕ) (ts : List Test) → rises m ts ≡ true → (n : ℕ) → First n ts → Lowest n ts
unfolding rises
first_lowest m [] r n f = absurd f
first_lowest m ((i when b) ∷ ts) r n (inl f) = record {
  applies = inl (f.1, f.0);
  least = λ j a. ⊎_elim
      (λ (e : (j ≡ i) × (b ≡ true)). le_of_eq (f.1 ∙ sym e.0))
      (λ (a : Applies j ts). omega (arith, f.1, no_lower i ts (parts (leb m i) (rises i ts) r).1 j a))
      a;
}
first_lowest m ((i when b) ∷ ts) r n (inr f) =
    let l = first_lowest i ts (parts (leb m i) (rises i ts) r).1 n f.1 in
    record { applies = inr l.applies; least = λ j a. ⊎_elim (λ (e : (j ≡ i) × (b ≡ true)). clash e.1 f.0) (l.least j) a }

lowest_first : (m : ℕ) (ts : List Test) → rises m ts ≡ true → (n : ℕ) → Lowest n ts → First n ts
unfolding rises
lowest_first m [] r n l = l.applies
lowest_first m ((i when true) ∷ ts) r n l = inl (
  refl,
  ⊎_elim
      (λ (e : (n ≡ i) × (true ≡ true)). e.0)
      (λ (a : Applies n ts). le_antisymm (l.least i (inl (refl, refl))) (no_lower i ts (parts (leb m i) (rises i ts) r).1 n a))
      l.applies,
)
lowest_first m ((i when false) ∷ ts) r n l = inr (
  refl,
  lowest_first i ts (parts (leb m i) (rises i ts) r).1 n (record {
    applies = ⊎_elim (λ (e : (n ≡ i) × (false ≡ true)). clash e.1 refl) (λ (a : Applies n ts). a) l.applies;
    least = λ j a. l.least j (inr a);
  }),
)

-- a list is passed where none of its tests applies
none_passed : (ts : List Test) → ((n : ℕ) → Applies n ts → ⊥) → Passed ts
none_passed [] f = tt
none_passed ((n when true) ∷ ts) f = absurd (f n (inl (refl, refl)))
none_passed ((n when false) ∷ ts) f = (refl, none_passed ts (λ m a. f m (inr a)))

passed_none : (ts : List Test) → Passed ts → (n : ℕ) → Applies n ts → ⊥
passed_none [] p n a = a
passed_none ((m when b) ∷ ts) p n (inl a) = clash a.1 p.0
passed_none ((m when b) ∷ ts) p n (inr a) = passed_none ts p.1 n a

given_exactly : {A : Type 0} (ts : List Test) (a : A) → (in_order ts a ≡ given a) ↔ ((n : ℕ) → Applies n ts → ⊥)
given_exactly ts a = ((λ e. passed_none ts (passed ts a a (sym e)).0), (λ f. sym (gives ts a (none_passed ts f))))

-- so a call by tests whose numbers rise answers by them
by_tests : {A : Type 0} (ts : List Test) (a : A) → rises 0 ts ≡ true → ByTests ts (in_order ts a) a
by_tests ts a r = record {
  refuses = λ n. (
    (λ e. first_lowest 0 ts r n (first ts a n (sym e))),
    (λ l. sym (refuses ts a n (lowest_first 0 ts r n l))),
  );
  gives = given_exactly ts a;
}

lends : {A S : Type 0} (answer : Answer A) (a : A) (before after : S) → Lends (lending answer before after) a before after
lends answer a before after = record { leaves = λ n e. rw e; writes = λ e. rw e }

lent_by_tests : {A S : Type 0} (ts : List Test) (a : A) (before after : S) → rises 0 ts ≡ true →
    LentByTests ts (lending (in_order ts a) before after) a before after
lent_by_tests ts a before after r = record { answers = by_tests ts a r; slices = lends (in_order ts a) a before after }

in_order_lem : {A S : Type 0} (ts : List Test) (a : A) (before after : S) → InOrder ts (lending (in_order ts a) before after) a before after
in_order_lem ts a before after = record {
  refuses = λ n. ((λ e. first ts a n (sym e)), (λ f. sym (refuses ts a n f)));
  gives = given_exactly ts a;
  slices = lends (in_order ts a) a before after;
}

pub demand_1 : Demand1
unfolding rises
demand_1 = record {
  place_of = λ k n. by_tests _ _ refl;
  number_of = λ k p. by_tests _ _ refl;
  cell_at = λ k y x. by_tests _ _ refl;
  centre_of = λ k n. by_tests _ _ refl;
  step_along = λ k n c. by_tests _ _ refl;
  code_between = λ k m n. by_tests _ _ refl;
  cells_touch = λ k m n. by_tests _ _ refl;
  touching_cells = λ k n out. lent_by_tests _ _ _ _ refl;
  is_mask = λ k a. by_tests _ _ refl;
  count = λ k a. by_tests _ _ refl;
  join = λ k a b out. lent_by_tests _ _ _ _ refl;
  within = λ k a b. by_tests _ _ refl;
  grow = λ k m a out work. lent_by_tests _ _ _ _ refl;
  shrink = λ k m a out work. lent_by_tests _ _ _ _ refl;
  fill = λ k a o out. lent_by_tests _ _ _ _ refl;
  reading_of = λ k temps ages c. by_tests _ _ refl;
  is_chart = λ k temps ages. by_tests _ _ refl;
  day = λ k d new clouds temps ages. lent_by_tests _ _ _ _ refl;
  read_number = read_number;
  write_number = λ n at out. lent_by_tests _ _ _ _ refl;
  reading_border = λ bs out. in_order_lem _ _ _ _;
  writing_border = λ k cs out. in_order_lem _ _ _ _;
}
