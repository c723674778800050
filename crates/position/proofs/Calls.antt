-- What the call answers: the cell at a position holds it and no other cell of its octant does, south mirrors north, and cells nest. Laws of the call
-- definitions, over every level that they accept.
-- Assumes nothing.
use Prim.Native.Nat.{ℕ, suc, ◌+◌, ◌*◌, ◌-◌, ◌/◌, ◌^◌, ◌≤◌, ◌<◌}
use mathlib.Core.Bool.{false}
use mathlib.Core.List.{List, [], ◌∷◌}
use mathlib.Core.Path.{◌≡◌, refl, sym, ap, ap₂, ◌∙◌}
use native.Mathlib.Nat.{add-mul}
use native.Mathlib.Omega.{arith}
use lib.IntN.{ℤ, pos, negsuc, nat_abs}
use borrow.Author.Tests.{ltb-false, le-ltb}
use Rattle.refusal.specs.Answer.{Test, given}
use Rattle.refusal.specs.Tests.{bad_level}
use Rattle.refusal.proofs.Answers.{passed, gives}
use Rattle.cell.specs.Cell.{Triangle, up, Place, place, number, max_level}
use Rattle.cell.proofs.Laws.{place_number, number_place}
use Rattle.position.specs.Position.{q, latitude_out, longitude_out, octant, offset, Holds, place_at, bad_latitude, bad_longitude, cell_call}
use Rattle.position.proofs.Laws.{holder_holds, holds_unique, triangle_below, triangle_pole, place_at_occurs, number_nested}

-- the tests of the call
abbrev tests : ℕ → ℤ → ℤ → List Test
tests k y x = bad_level max_level k ∷ bad_latitude y ∷ bad_longitude x ∷ []

-- where level, latitude and longitude are in range, it gives the number of the position's place
pub answers : (k : ℕ) (y x : ℤ) → k ≤ max_level → latitude_out y ≡ false → longitude_out x ≡ false → cell_call k y x ≡ given (number k (place_at k y x))
answers k y x h u v = sym (gives (tests k y x) (number k (place_at k y x)) (le-ltb max_level k h, (u, (v, tt))))

-- what is known where it gives cell n
pub record Answered (k : ℕ) (y x : ℤ) (n : ℕ) : Type 0 where
  pub level : k ≤ max_level
  pub latitude : latitude_out y ≡ false
  pub longitude : longitude_out x ≡ false
  pub numbered : number k (place_at k y x) ≡ n
  pub at : place k n ≡ place_at k y x

pub answered : (k : ℕ) (y x : ℤ) (n : ℕ) → cell_call k y x ≡ given n → Answered k y x n
answered k y x n e =
    let t = passed (tests k y x) (number k (place_at k y x)) n (sym e) in
    record {
      level = ltb-false max_level k t.0.0;
      latitude = t.0.1.0;
      longitude = t.0.1.1.0;
      numbered = t.1;
      at = ap (place k) (sym t.1) ∙ place_number k (place_at k y x) (place_at_occurs k y x t.0.1.0);
    }

-- below the pole the cell answered is one of the position's octant and holds the position
pub answered_holds : (k : ℕ) (y x : ℤ) (n : ℕ) → cell_call k y x ≡ given n → nat_abs y < q →
    ((place k n).0 ≡ octant y x) × Holds k (nat_abs y) (offset x) (place k n).1
unfolding place_at
answered_holds k y x n e h = rw ((answered k y x n e).at, triangle_below k (nat_abs y) (offset x) h) (refl, holder_holds k (nat_abs y) (offset x))

-- and no other cell of that octant does
pub answered_alone : (k : ℕ) (y x : ℤ) (n m : ℕ) → cell_call k y x ≡ given n → nat_abs y < q →
    (place k m).0 ≡ octant y x → Holds k (nat_abs y) (offset x) (place k m).1 → m ≡ n
answered_alone k y x n m e h o f =
    let a = answered_holds k y x n e h in
    let g : (place k m).1 ≡ (place k n).1 = holds_unique k (nat_abs y) (offset x) (place k m).1 (place k n).1 f a.1 in
    sym (number_place k m) ∙ ap₂ (λ (o : ℕ) (f : Triangle). number k (o, f)) (o ∙ sym a.0) g ∙ number_place k n

-- at a pole it is up(N−1,0) of the octant that the longitude names
pub answered_pole : (k : ℕ) (y x : ℤ) (n : ℕ) → cell_call k y x ≡ given n → nat_abs y ≡ q → place k n ≡ (octant y x, up (2 ^ k - 1) 0)
unfolding place_at
answered_pole k y x n e h = (answered k y x n e).at ∙ rw (h, triangle_pole k (offset x))

-- south is the mirror image of north: the place at −y is that at y, four octants on
pub place_mirror : (k y : ℕ) (x : ℤ) → place_at k (negsuc y) x ≡ ((place_at k (pos (suc y)) x).0 + 4, (place_at k (pos (suc y)) x).1)
unfolding place_at octant
place_mirror k y x = refl

number_mirror : (k : ℕ) (p : Place) → number k (p.0 + 4, p.1) ≡ number k p + 4 * 4 ^ k
unfolding number
number_mirror k p = rw add-mul (omega arith)

pub south_mirror : (k y : ℕ) (x : ℤ) (n : ℕ) → cell_call k (pos (suc y)) x ≡ given n → cell_call k (negsuc y) x ≡ given (n + 4 * 4 ^ k)
south_mirror k y x n e =
    let a = answered k (pos (suc y)) x n e in
    answers k (negsuc y) x a.level a.latitude a.longitude
    ∙ ap given (ap (number k) (place_mirror k y x) ∙ number_mirror k (place_at k (pos (suc y)) x) ∙ ap (λ (i : ℕ). i + 4 * 4 ^ k) a.numbered)

-- the cell of a position at level k + 1 is a child of its cell at level k, poles included
pub answered_nested : (k : ℕ) (y x : ℤ) (n : ℕ) → cell_call (suc k) y x ≡ given n → cell_call k y x ≡ given (n / 4)
answered_nested k y x n e =
    let a = answered (suc k) y x n e in
    let h : k ≤ max_level = omega (arith, a.level) in
    answers k y x h a.latitude a.longitude ∙ ap given (sym (number_nested k y x) ∙ ap (λ (i : ℕ). i / 4) a.numbered)
