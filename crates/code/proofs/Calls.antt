-- What the two calls answer: laws of the call definitions, for the proofs of the code and for the crates above, which speak of cells by their numbers.
-- Assumes nothing.
use Prim.Native.Nat.{ℕ, ◌≤◌, ◌<◌}
use mathlib.Core.Bool.{false}
use mathlib.Core.List.{[], ◌∷◌}
use mathlib.Core.Logic.{◌↔◌, ◌⊎◌, inl, inr}
use mathlib.Core.Option.{Option, none, some}
use mathlib.Core.Path.{◌≡◌, refl, sym, ap, subst, ◌∙◌}
use borrow.Author.Tests.{lt-leb}
use Rattle.refusal.specs.Answer.{given, refused, in_order}
use Rattle.refusal.specs.Tests.{bad_level}
use Rattle.refusal.proofs.Answers.{given≢refused, given_same, gives, tests_left}
use Rattle.refusal.proofs.Tests.{clash}
use Rattle.cell.specs.Cell.{Place, place, number, Occurs, cells, cell_tests, bad_cell, max_level}
use Rattle.cell.proofs.Laws.{number_place}
use Rattle.cell.proofs.Answers.{Given, in-range, accepted_with, accepts, given_at}
use Rattle.code.specs.Step.{step, missing, found_or, bad_step, code_to, step_call, code_call}
use Rattle.code.specs.Neighbours.{back, OneOf, Neighbours}
use Rattle.code.proofs.Laws.{One, step_occurs, step_back, code_step, past_seven, one_place, three_direct}

-- where something is found
pub is_found : {A : Type 0} (s : Option A) → missing s ≡ false → (x : A) × (s ≡ some x)
is_found none e = clash refl e
is_found (some x) e = (x, refl)

-- a cell of the level
cell_of : (k n : ℕ) → k ≤ max_level → n < cells k → Given k n (place k n)
cell_of k n h l = in-range k n (place k n) h l refl

-- ---- the step call

-- from a cell of the level it answers by the step from its place
pub given_step : (k n c : ℕ) (p : Place) (s : Option Place) → Given k n p → step k p c ≡ s →
    in_order (bad_step s ∷ []) (number k (found_or (place k n) s)) ≡ step_call k n c
given_step k n c p s g e =
    let f : step k (place k n) c ≡ s = ap (λ (p : Place). step k p c) g.at ∙ e in
    rw f (tests_left (cell_tests k n) (bad_step s ∷ []) _ _ (number k (found_or (place k n) s)) (accepts k n (place k n) g.level g.below))

-- what is known where the step along c leads from cell n to cell m
pub record Stepped (k n c m : ℕ) : Type 0 where
  pub from : Given k n (place k n)
  pub to : Given k m (place k m)
  pub goes : step k (place k n) c ≡ some (place k m)

pub stepped : (k n c m : ℕ) → step_call k n c ≡ given m → Stepped k n c m
stepped k n c m e =
    let t = accepted_with k n (bad_step (step k (place k n) c) ∷ []) _ m (sym e) in
    let w = is_found (step k (place k n) c) t.1.0 in
    let i : number k w.0 ≡ m = ap (λ (s : Option Place). number k (found_or (place k n) s)) (sym w.1) ∙ t.2 in
    let h = given_at k w.0 t.0.level (step_occurs k (place k n) c w.0 t.0.occurs w.1) in
    let u = subst (λ (j : ℕ). Given k j w.0) i h in
    record { from = t.0; to = cell_of k m u.level u.below; goes = w.1 ∙ ap some (sym u.at) }

-- and the other way round: cells of the level whose places a step joins are joined by the call
pub joined : (k n c m : ℕ) → Given k n (place k n) → step k (place k n) c ≡ some (place k m) → step_call k n c ≡ given m
joined k n c m g e = sym (given_step k n c (place k n) (some (place k m)) g e) ∙ ap given (number_place k m)

-- where there is no step, the call from a cell of the level is refused 7
pub no_step : (k n c : ℕ) → Given k n (place k n) → step k (place k n) c ≡ none → step_call k n c ≡ refused 7
no_step k n c g e = sym (given_step k n c (place k n) none g e)

-- so along a code above 7
pub code_past : (k n c : ℕ) → k ≤ max_level → n < cells k → 7 < c → step_call k n c ≡ refused 7
code_past k n c h l g = no_step k n c (cell_of k n h l) (past_seven k (place k n) c g)

-- a step leads to a cell of the level
pub step_below : (k n c m : ℕ) → step_call k n c ≡ given m → m < cells k
step_below k n c m e = (stepped k n c m e).to.below

-- and can be taken back
pub call_back : (k n c m : ℕ) → step_call k n c ≡ given m → step_call k m (back c) ≡ given n
call_back k n c m e = let s = stepped k n c m e in joined k m (back c) n s.to (step_back k (place k n) c (place k m) s.from.occurs s.goes)

-- ---- three direct neighbours

-- of two steps one exists: one of the two calls is given, and the other refused
one_given : (k n c d : ℕ) (x : Place) → Given k n (place k n) → One (step k (place k n) c) (step k (place k n) d) x →
    OneOf k n c d (number k x)
one_given k n c d x g (inl w) =
    inl (sym (given_step k n c (place k n) (some x) g w.0), no_step k n d g w.1)
one_given k n c d x g (inr w) =
    inr (no_step k n c g w.0, sym (given_step k n d (place k n) (some x) g w.1))

-- so it leads to a place that occurs
one_occurs : (k : ℕ) (p : Place) (c d : ℕ) (x : Place) → Occurs k p → One (step k p c) (step k p d) x → Occurs k x
one_occurs k p c d x h (inl w) = step_occurs k p c x h w.0
one_occurs k p c d x h (inr w) = step_occurs k p d x h w.1

-- a cell of the level has exactly three
pub three_neighbours : (k n : ℕ) → k ≤ max_level → n < cells k → Neighbours k n
three_neighbours k n h l =
    let g = cell_of k n h l in
    let d = three_direct k (place k n) g.occurs in
    let top = one_occurs k (place k n) 0 5 d.top g.occurs d.by_top in
    let left = one_occurs k (place k n) 1 7 d.left g.occurs d.by_left in
    let right = one_occurs k (place k n) 2 6 d.right g.occurs d.by_right in
    record {
      top = number k d.top;
      left = number k d.left;
      right = number k d.right;
      by_top = one_given k n 0 5 d.top g d.by_top;
      by_left = one_given k n 1 7 d.left g d.by_left;
      by_right = one_given k n 2 6 d.right g d.by_right;
      top_left = λ e. d.top_left (one_place k d.top d.left top left e);
      left_right = λ e. d.left_right (one_place k d.left d.right left right e);
      right_top = λ e. d.right_top (one_place k d.right d.top right top e);
      only = λ c m q e. numbers m (d.only (place k m) (c, q, (stepped k n c m e).goes));
    }
  where
    numbers : {x y z : Place} (m : ℕ) → (place k m ≡ x) ⊎ (place k m ≡ y) ⊎ (place k m ≡ z) →
        (m ≡ number k x) ⊎ (m ≡ number k y) ⊎ (m ≡ number k z)
    numbers m (inl e) = inl (sym (number_place k m) ∙ ap (number k) e)
    numbers m (inr (inl e)) = inr (inl (sym (number_place k m) ∙ ap (number k) e))
    numbers m (inr (inr e)) = inr (inr (sym (number_place k m) ∙ ap (number k) e))

-- ---- the code call

-- between two cells of the level it answers by the code from the one place to the other
pub given_code : (k m n : ℕ) (p r : Place) (s : Option ℕ) → Given k m p → Given k n r → code_to k (number k r) p ≡ s →
    in_order (bad_step s ∷ []) (found_or 0 s) ≡ code_call k m n
given_code k m n p r s g g' e =
    let i : number k r ≡ n = ap (number k) (sym g'.at) ∙ number_place k n in
    let f : code_to k n (place k m) ≡ s = rw (g.at, ← i) e in
    let second = gives (bad_cell k n ∷ []) (place k n) (lt-leb (cells k) n g'.below, tt) in
    tests_left (bad_cell k n ∷ []) (bad_step s ∷ []) _ _ (found_or 0 s) second
    ∙ tests_left (cell_tests k m) (bad_cell k n ∷ bad_step s ∷ []) _ _ (found_or 0 s) (accepts k m (place k m) g.level g.below)
    ∙ ap (λ (o : Option ℕ). in_order (bad_level max_level k ∷ bad_cell k m ∷ bad_cell k n ∷ bad_step o ∷ []) (found_or 0 o)) (sym f)

-- the code between two cells is c exactly where the step along c leads from the one to the other
pub calls_agree : (k n m c : ℕ) → (code_call k n m ≡ given c) ↔ (step_call k n c ≡ given m)
calls_agree k n m c = (to, from)
  where
    to : code_call k n m ≡ given c → step_call k n c ≡ given m
    to e =
        let t = accepted_with k n (bad_cell k m ∷ bad_step (code_to k m (place k n)) ∷ []) _ c (sym e) in
        let w = is_found (code_to k m (place k n)) t.1.1.0 in
        let d : w.0 ≡ c = ap (found_or 0) (sym w.1) ∙ t.2 in
        joined k n c m t.0 ((code_step k m (place k n) c t.0.occurs).0 (w.1 ∙ ap some d))

    from : step_call k n c ≡ given m → code_call k n m ≡ given c
    from e =
        let s = stepped k n c m e in
        let d = (code_step k m (place k n) c s.from.occurs).1 s.goes in
        sym (given_code k n m (place k n) (place k m) (some c) s.from s.to (rw (number_place k m) d))

-- two different codes lead to different cells
pub code_once : (k n c d m : ℕ) → step_call k n c ≡ given m → step_call k n d ≡ given m → c ≡ d
code_once k n c d m e f = given_same (sym ((calls_agree k n m c).1 e) ∙ (calls_agree k n m d).1 f)

-- between two cells of the level no code is found exactly where no code's step leads from the one to the other
pub no_code_joins : (k m n : ℕ) → k ≤ max_level → m < cells k → n < cells k →
    (code_call k m n ≡ refused 7) ↔ ((c : ℕ) → ¬ (step_call k m c ≡ given n))
no_code_joins k m n h l l' = (
  λ e c f. given≢refused (sym ((calls_agree k m n c).1 f) ∙ e),
  λ u. by (code_to k (number k (place k n)) (place k m)) refl u,
)
  where
    by : (s : Option ℕ) → code_to k (number k (place k n)) (place k m) ≡ s → ((c : ℕ) → ¬ (step_call k m c ≡ given n)) → code_call k m n ≡ refused 7
    by none e u = sym (given_code k m n (place k m) (place k n) none (cell_of k m h l) (cell_of k n h l') e)
    by (some c) e u =
        absurd (u c ((calls_agree k m n c).0 (sym (given_code k m n (place k m) (place k n) (some c) (cell_of k m h l) (cell_of k n h l') e))))
