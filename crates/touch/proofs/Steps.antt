-- Tests that are computed for all numbers below a bound, and the steps of the twelve ways as the code's tables have them. Assumes nothing.
use Prim.Native.Nat.{ℕ, zero, suc, ◌+◌, ◌/◌, ◌%◌, ◌≤◌, ◌<◌}
use mathlib.Core.Path.{◌≡◌, refl, sym, ap, ◌∙◌}
use mathlib.Core.Bool.{Bool, true, false, ◌&&◌, not}
use mathlib.Core.List.{List, [], ◌∷◌}
use mathlib.Core.Logic.{⊎_elim}
use native.Mathlib.Nat.{eq-or-lt_of_le, le_of_suc-le-suc}
use native.Mathlib.Omega.{arith}
use borrow.Author.Tests.{leb-true, eqb-true}
use lib.Dec.{eqb, leb}
use lib.ListN.{get_or}
use Rattle.refusal.proofs.Tests.{parts, clash}
use Rattle.cell.specs.declared.Kind.{Kind}
use Rattle.cell.specs.declared.Kind.TheVariants.{Up, Down}
use Rattle.touch.specs.inside.Inner.{inner_ways, inner_way, inner_step}

-- ---- computed tests

unfoldable pub all : (ℕ → Bool) → ℕ → Bool
all P zero = true
all P (suc j) = all P j && P j

pub all_at : (P : ℕ → Bool) (n : ℕ) → all P n ≡ true → (i : ℕ) → i < n → P i ≡ true
unfolding all
all_at P zero e i h = absurd (omega arith)
all_at P (suc j) e i h = ⊎_elim
    (λ (d : i ≡ j). ap P d ∙ (parts (all P j) (P j) e).1)
    (λ (l : i < j). all_at P j (parts (all P j) (P j) e).0 i l)
    (eq-or-lt_of_le (le_of_suc-le-suc h))

-- five tests together
pub five :
    (a b c d e : Bool) → (a && b && c && d && e) ≡ true
    → (a ≡ true) × (b ≡ true) × (c ≡ true) × (d ≡ true) × (e ≡ true)
five a b c d e q =
    let r = parts (a && b && c && d) e q in
    let s = parts (a && b && c) d r.0 in
    let t = parts (a && b) c s.0 in
    let u = parts a b t.0 in
    (u.0, u.1, t.1, s.1, r.1)

same : Bool → Bool → Bool
same true b = b
same false b = not b

same_told : (a b : Bool) → same a b ≡ true → a ≡ b
unfolding same
same_told true b e = sym e
same_told false true e = clash e refl
same_told false false e = refl

-- ---- the steps of way i

-- the code's table
abbrev ways : List (ℕ × ℕ × Bool)
ways =
    (0, 0, true) ∷ (0, 1, true) ∷ (0, 1, false) ∷ (0, 2, true) ∷ (0, 2, false) ∷ (1, 0, true)
    ∷ (1, 0, false) ∷ (1, 1, true) ∷ (1, 2, false) ∷ (2, 0, true) ∷ (2, 0, false) ∷ (2, 1, false) ∷ []

abbrev way : ℕ → ℕ × ℕ × Bool
way i = get_or ways i (0, 0, false)

abbrev pub row_step : ℕ → ℕ
row_step i = (way i).0

abbrev pub col_step : ℕ → ℕ
col_step i = (way i).1

abbrev pub turn : ℕ → Bool
turn i = (way i).2

-- the steps on the three axes together
abbrev steps : ℕ → ℕ
steps w = w % 3 + w / 3 % 3 + w / 9

pub record Steps (t : Kind) (i : ℕ) : Type 0 where
  pub row_small : row_step i ≤ 2
  pub col_small : col_step i ≤ 2
  pub rows : inner_step t (row_step i) ≡ inner_way t i / 9
  pub cols : inner_step t (col_step i) ≡ inner_way t i / 3 % 3
  pub turns : not (turn i) ≡ eqb (steps (inner_way t i)) 3

step_test : Kind → ℕ → Bool
step_test t i =
    leb (row_step i) 2
    && leb (col_step i) 2
    && eqb (inner_step t (row_step i)) (inner_way t i / 9)
    && eqb (inner_step t (col_step i)) (inner_way t i / 3 % 3)
    && same (not (turn i)) (eqb (steps (inner_way t i)) 3)

steps_tested : (t : Kind) → all (step_test t) 12 ≡ true
unfolding all step_test same inner_step inner_way inner_ways
steps_tested Up = refl
steps_tested Down = refl

pub steps_at : (t : Kind) (i : ℕ) → i < 12 → Steps t i
unfolding step_test
steps_at t i h =
    let w = inner_way t i in
    let r = eqb (inner_step t (row_step i)) (w / 9) in
    let c = eqb (inner_step t (col_step i)) (w / 3 % 3) in
    let p = five (leb (row_step i) 2) (leb (col_step i) 2) r c (same (not (turn i)) (eqb (steps w) 3)) (all_at (step_test t) 12 (steps_tested t) i h) in
    record {
      row_small = leb-true (row_step i) 2 p.0;
      col_small = leb-true (col_step i) 2 p.1;
      rows = eqb-true (inner_step t (row_step i)) (w / 9) p.2;
      cols = eqb-true (inner_step t (col_step i)) (w / 3 % 3) p.3;
      turns = same_told (not (turn i)) (eqb (steps w) 3) p.4;
    }
