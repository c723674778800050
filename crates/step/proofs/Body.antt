-- What the code computes by: N as it shifts it, one less, its tests, the places that it compares and the codes that it reads.
-- Assumes nothing.
use Prim.Native.Nat.{ℕ, zero, suc, ◌*◌, ◌-◌, ◌%◌, ◌^◌, ◌≤◌}
use mathlib.Core.Bool.{true, not, false≢true}
use mathlib.Core.Option.{none, some}
use mathlib.Core.Path.{◌≡◌, refl, ap}
use native.Mathlib.Omega.{arith}
use lib.Dec.{leb, ltb, eqb}
use lib.Pow.{pow_mono}
use borrow.Author.Tests.{eqb-true, le-leb, eq-eqb, ne_eqb, leb-true}
use Rattle.std.proofs.Common.{rules}
use Rattle.refusal.proofs.Tests.{same_test}
use Rattle.cell.specs.Cell.{Triangle, span, Place, number, Occurs, triangle_of, place_of, max_level}
use Rattle.cell.specs.declared.Kind.{Kind}
use Rattle.cell.specs.declared.Kind.TheVariants.{Up, Down}
use Rattle.cell.specs.declared.Place as declared
use Rattle.cell.specs.contracts.KindPartialEq.TheImpl.{eq-value as kind-eq}
use Rattle.cell.specs.contracts.PlacePartialEq.TheImpl.{eq-value as place-eq}
use Rattle.cell.proofs.Laws.{shifted}
use Rattle.code.specs.Step.{less, found_if, inside, leads_to, step_call}
use Rattle.code.proofs.Laws.{one_place, past_seven}
use Rattle.code.proofs.Calls.{given_step}
use Rattle.cell.proofs.Answers.{Given}
use Rattle.refusal.specs.Answer.{given, refused, ◌when◌, in_order, First}
use Rattle.refusal.proofs.Answers.{passed, first}
use mathlib.Core.List.{[], ◌∷◌}
use mathlib.Core.Logic.{inl, inr}
use Rattle.step.specs.inside.Code.{code_of}
use Rattle.step.specs.declared.Code.{Code}

-- N as the code shifts it
pub rows_shifted : (k : ℕ) → k ≤ max_level → 1 * 2 ^ k % 2 ^ 32 ≡ 2 ^ k
rows_shifted k h = shifted 32 k (omega arith)

-- N is small
pub rows_bound : (k : ℕ) → k ≤ max_level → 2 ^ k ≤ 2 ^ max_level
rows_bound k h = pow_mono {i = k} {j = max_level} h

-- a triangle with one less is inside the octant where every such triangle is: it is there where the number is not 0, as the code tests it
pub inside_less : (k o n : ℕ) (g : ℕ → Triangle) → ((m : ℕ) → n ≡ suc m → span (g m) ≤ 2 ^ k) →
    inside k o (less n g) ≡ found_if (not (eqb n 0)) (o, g (n - 1))
inside_less k o zero g h = refl
inside_less k o (suc m) g h = let e : suc m - 1 ≡ m = omega arith in rw (e, le-leb _ _ (h m refl), ne_eqb (suc m) 0 (omega arith))

-- whether a triangle lies inside the octant, as the code tests it
pub inside_test : (k n m : ℕ) → k ≤ max_level → m ≡ suc n → leb m (2 ^ k) ≡ ltb n (1 * 2 ^ k % 2 ^ 32)
inside_test k n m h e = rw (rows_shifted k h, e)

-- ---- places that the code compares

-- the kinds of two triangles tell them apart
kinds_same : (s t : Kind) (a b a' b' : ℕ) → triangle_of s a b ≡ triangle_of t a' b' → (eqb a a' ≡ true) × (eqb b b' ≡ true) × (kind-eq.it s t ≡ true)
kinds_same Up Up a b a' b' e = (eq-eqb a a' (cc), eq-eqb b b' (cc), refl)
kinds_same Up Down a b a' b' e = absurd (false≢true (cc))
kinds_same Down Up a b a' b' e = absurd (false≢true (cc))
kinds_same Down Down a b a' b' e = (eq-eqb a a' (cc), eq-eqb b b' (cc), refl)

-- two places of the code are equal exactly where they are one place
same_value : (p q : declared.Place) → place-eq.it p q ≡ true → p ≡ q
same_value p q e = search rules

same_fields : (p q : declared.Place) → place_of p ≡ place_of q → place-eq.it p q ≡ true
same_fields p q e =
    let f = kinds_same p.kind q.kind p.row p.col q.row q.col (ap (λ (r : Place). r.1) e) in
    simp (eq-eqb p.octant q.octant (ap (λ (r : Place). r.0) e), f.0, f.1, f.2)

-- so the code need not compare numbers
pub same_leads : (k : ℕ) (p q : declared.Place) → Occurs k (place_of p) → Occurs k (place_of q) →
    place-eq.it p q ≡ leads_to k (number k (place_of q)) (some (place_of p))
same_leads k p q h g = same_test _ _
    (λ e. eq-eqb _ _ (ap (λ p. number k (place_of p)) (same_value p q e)))
    (λ e. same_fields p q (one_place k (place_of p) (place_of q) h g (eqb-true _ _ e)))

-- ---- codes that the code reads

-- a number that is read is that of the code
pub read_code : (code : Code) (n : ℕ) → given (code_of code) ≡ in_order (7 when leb 8 n ∷ []) n → n ≡ code_of code
read_code code n e = (passed (7 when leb 8 n ∷ []) n (code_of code) e).1

-- where a number is not read, there is no step along it
pub no_code_read : (k n c m : ℕ) (p : Place) → Given k n p → refused m ≡ in_order (7 when leb 8 c ∷ []) c → refused m ≡ step_call k n c
no_code_read k n c m p g e = go (first (7 when leb 8 c ∷ []) c m e)
  where
    go : First m (7 when leb 8 c ∷ []) → refused m ≡ step_call k n c
    go (inl f) = rw f.1 (given_step k n c p none g (past_seven k p c (leb-true 8 c f.0)))
    go (inr f) = absurd f.1
