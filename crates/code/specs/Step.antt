-- Steps and codes (docs/RULES.md, 4). A code is a number from 0 to 7; its letter stands beside it below. At level k, N is 2 ^ k.
use Rattle.std.specs.Prelude.{ℕ, zero, suc, ◌+◌, ◌*◌, ◌-◌, ◌/◌, ◌%◌, ◌^◌, Bool, true, false, List, [], ◌∷◌, map, leb, eqb, get_or}
use Rattle.std.proofs.Math.Option.{Option, none, some}
use Rattle.refusal.specs.Answer.{Answer, Test, ◌when◌, in_order}
use Rattle.refusal.specs.Tests.{bad_level}
use Rattle.cell.specs.Cell.{Triangle, up, down, span, Place, place, number, max_level, bad_cell}

-- ---- octants

-- the octant in the other hemisphere
unfoldable pub across : ℕ → ℕ
across o = (o + 4) % 8

-- the octant to the east, in a ring of four in each hemisphere; and to the west, the other way round
unfoldable pub east : ℕ → ℕ
east o = o / 4 * 4 + (o + 1) % 4

unfoldable pub west : ℕ → ℕ
west o = o / 4 * 4 + (o + 3) % 4

-- ---- one step

-- what is found with one less than n, where n is not 0
abbrev pub less : {A : Type 0} → ℕ → (ℕ → A) → Option A
less zero f = none
less (suc n) f = some (f n)

-- what is found where a test holds
abbrev pub found_if : {A : Type 0} → Bool → A → Option A
found_if true x = some x
found_if false x = none

-- a triangle, where it lies inside the octant at level k
abbrev pub inside : ℕ → ℕ → Option Triangle → Option Place
inside k o none = none
inside k o (some f) = found_if (leb (span f) (2 ^ k)) (o, f)

-- the steps from a place of octant o, for the codes 0 to 7 in turn: t, l, r, e and w inside the octant, then T, E and W over its edges
unfoldable pub steps : ℕ → ℕ → Triangle → List (Option Place)
steps k o (up a b) =
    inside k o (less a (λ a'. down a' b))
    ∷ inside k o (less b (λ b'. down a b'))
    ∷ inside k o (some (down a b))
    ∷ inside k o (some (up a (b + 1)))
    ∷ inside k o (less b (λ b'. up a b'))
    ∷ found_if (eqb a 0) (across o, up a b)
    ∷ found_if (eqb (a + b + 1) (2 ^ k)) (east o, up a 0)
    ∷ found_if (eqb b 0) (west o, up a (2 ^ k - 1 - a))
    ∷ []
steps k o (down a b) =
    inside k o (some (up (a + 1) b))
    ∷ inside k o (some (up a b))
    ∷ inside k o (some (up a (b + 1)))
    ∷ inside k o (some (down a (b + 1)))
    ∷ inside k o (less b (λ b'. down a b'))
    ∷ none ∷ none ∷ none
    ∷ []

-- the step along a code; there is none along a code above 7
unfoldable pub step : ℕ → Place → ℕ → Option Place
step k p code = get_or (steps k p.0 p.1) code none

-- ---- the code between two cells

-- whether a step leads to cell n
abbrev pub leads_to : ℕ → ℕ → Option Place → Bool
leads_to k n none = false
leads_to k n (some p) = eqb (number k p) n

-- where the first true stands in a list
unfoldable pub first_true : List Bool → Option ℕ
first_true [] = none
first_true (b ∷ bs) = pick b (first_true bs)
  where
    pick : Bool → Option ℕ → Option ℕ
    pick true rest = some 0
    pick false none = none
    pick false (some i) = some (suc i)

-- the code along which the step from a place leads to cell n
unfoldable pub code_to : ℕ → ℕ → Place → Option ℕ
code_to k n p = first_true (map (leads_to k n) (steps k p.0 p.1))

-- ---- the two calls

-- whether nothing is found; and what is found, with another value where nothing is, which the test for 7 hides
abbrev pub missing : {A : Type 0} → Option A → Bool
missing none = true
missing (some x) = false

abbrev pub found_or : {A : Type 0} → A → Option A → A
found_or a none = a
found_or a (some x) = x

-- 7: no such step
abbrev pub bad_step : {A : Type 0} → Option A → Test
bad_step s = 7 when missing s

-- where the step along a code leads from cell n; where there is none the cell itself, hidden by the test for 7
abbrev pub step_target : ℕ → ℕ → ℕ → Place
step_target k n code = found_or (place k n) (step k (place k n) code)

-- step along a code: refused 1, 4, 7
abbrev pub step_call : ℕ → ℕ → ℕ → Answer ℕ
step_call k n code =
    in_order (bad_level max_level k ∷ bad_cell k n ∷ bad_step (step k (place k n) code) ∷ []) (number k (step_target k n code))

-- code between two cells: refused 1, 4, 7
abbrev pub code_call : ℕ → ℕ → ℕ → Answer ℕ
code_call k m n =
    in_order
    (bad_level max_level k ∷ bad_cell k m ∷ bad_cell k n ∷ bad_step (code_to k n (place k m)) ∷ [])
    (found_or 0 (code_to k n (place k m)))
