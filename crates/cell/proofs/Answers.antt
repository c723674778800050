-- What a caller learns from the answers of `place_of` and `number_of`. Assumes nothing.
use Prim.Native.Nat.{ℕ, ◌^◌, ◌≤◌, ◌<◌}
use mathlib.Core.Path.{◌≡◌, refl, subst, ap}
use borrow.Author.Tests.{ltb-false, leb-false, le-ltb, lt-leb}
use mathlib.Core.List.{List, [], ◌∷◌, ◌++◌}
use Rattle.refusal.specs.Tests.{bad_level}
use Rattle.refusal.specs.Answer.{Answer, Test, given, in_order}
use Rattle.refusal.proofs.Answers.{Passed, passed, gives}
use Rattle.cell.specs.Cell.{Place, place, span, number, Occurs, cells, cell_tests, place_call, number_call, max_level}
use Rattle.cell.proofs.Laws.{place_occurs, number_below, place_number}

-- cell n of level k has the place p: level and number passed their tests
pub record Given (k n : ℕ) (p : Place) : Type 0 where
  pub level : k ≤ max_level
  pub below : n < cells k
  pub at : place k n ≡ p
  pub occurs : Occurs k p

-- both in range, and so its place occurs
pub in-range : (k n : ℕ) (p : Place) → k ≤ max_level → n < cells k → place k n ≡ p → Given k n p
in-range k n p h l e = record { level = h; below = l; at = e; occurs = subst (Occurs k) e (place_occurs k n l) }

-- so where a call whose tests begin with those of level and number gives a value; and it passed the others
pub accepted_with : {A : Type 0} (k n : ℕ) (us : List Test) (a b : A) → given b ≡ in_order (cell_tests k n ++ us) a →
    Given k n (place k n) × Passed us × (a ≡ b)
accepted_with k n us a b e =
    let t = passed (cell_tests k n ++ us) a b e in
    (in-range k n (place k n) (ltb-false max_level k t.0.0) (leb-false (cells k) n t.0.1.0) refl, t.0.1.1, t.1)

-- a level that was found to be within its bound
pub given_level : (m k l : ℕ) → given l ≡ in_order (bad_level m k ∷ []) k → (k ≤ m) × (k ≡ l)
given_level m k l e = let t = passed (bad_level m k ∷ []) k l e in (ltb-false m k t.0.0, t.1)

-- so where a call by level and number gives one
pub accepted : {A : Type 0} (k n : ℕ) (a b : A) → given b ≡ in_order (cell_tests k n) a → Given k n (place k n) × (a ≡ b)
accepted k n a b e = let t = accepted_with k n [] a b e in (t.0, t.2)

-- and where it gives the place
pub given_place : (k n : ℕ) (p : Place) → given p ≡ place_call k n → Given k n p
given_place k n p e = let a = accepted k n (place k n) p e in in-range k n p a.0.level a.0.below a.1

-- and the level with it
pub given_site : (k n l : ℕ) (p : Place) → ◌≡◌ {A = Answer (ℕ × Place)} (given (l, p)) (in_order (cell_tests k n) (k, place k n)) → (k ≡ l) × Given k n p
given_site k n l p e =
    let a = accepted k n (k, place k n) (l, p) e in
    (ap (λ (w : ℕ × Place). w.0) a.1, in-range k n p a.0.level a.0.below (ap (λ (w : ℕ × Place). w.1) a.1))

-- a call by level and number gives its value where both are in range
pub accepts : {A : Type 0} (k n : ℕ) (a : A) → k ≤ max_level → n < cells k → given a ≡ in_order (cell_tests k n) a
accepts k n a h l = gives (cell_tests k n) a (le-ltb max_level k h, (lt-leb (cells k) n l, tt))

-- a place that occurs is that of its number, which is given
pub given_at : (k : ℕ) (p : Place) → k ≤ max_level → Occurs k p → Given k (number k p) p
given_at k p h o = in-range k (number k p) p h (number_below k p o) (place_number k p o)

pub given_number : (k : ℕ) (p : Place) → k ≤ max_level → Occurs k p → number_call k p ≡ given (number k p)
given_number k p h o = rw (le-ltb max_level k h, lt-leb 8 p.0 o.0, le-ltb (2 ^ k) (span p.1) o.1)
