-- What is gathered along the ways: as many cells as there are ways that lead to one, so twelve places are enough. Assumes nothing.
use Prim.Native.Nat.{ℕ, zero, suc, ◌+◌, ◌-◌, ◌^◌, ◌≤◌, ◌<◌}
use mathlib.Core.Path.{◌≡◌, refl, sym, ap, subst, ◌∙◌}
use mathlib.Core.Bool.{Bool, true, false, ◌&&◌, cond}
use mathlib.Core.List.{List}
use mathlib.Core.Option.{none, some}
use native.Mathlib.Numerals.{add-one}
use native.Mathlib.Omega.{arith}
use borrow.Author.Tests.{le-leb, lt-ltb, eq-eqb, ne_eqb, leb-true, ltb-true}
use lib.Dec.{leb, ltb, eqb}
use lib.ListN.{length}
use Rattle.refusal.specs.Answer.{refused}
use Rattle.refusal.proofs.Answers.{given≢refused}
use Rattle.cell.specs.declared.Kind.{Kind}
use Rattle.cell.specs.declared.Kind.TheVariants.{Up, Down}
use Rattle.cell.specs.Cell.{Place, Occurs, span, triangle_of, place, place_call, number, cells, max_level}
use Rattle.cell.proofs.Laws.{number_below, place_number}
use Rattle.cell.proofs.Answers.{accepts}
use Rattle.adjacency.specs.declared.Cube.{Cube}
use Rattle.adjacency.specs.Cube.{sum, cube_of, place_of_cube, moved_cube, touching_way, cell_along, with_cell, gathered}
use Rattle.adjacency.proofs.Cubes.{room_small, sum_cube}
use Rattle.adjacency.proofs.Counts.{passes}
use Rattle.adjacency.proofs.Listed.{along_way, few}
use Rattle.cubes.specs.Cubes.{gather_call}

-- ---- a triangle's span by the kind that the code has

pub span_up : (kind : Kind) (a b : ℕ) → kind ≡ Up → span (triangle_of kind a b) ≡ a + b + 1
unfolding span
span_up kind a b e = rw e

pub span_down : (kind : Kind) (a b : ℕ) → kind ≡ Down → span (triangle_of kind a b) ≡ a + b + 2
unfolding span
span_down kind a b e = rw e

-- ---- the ways

pub gathered-more :
    (k : ℕ) (c : Cube) (s l : List ℕ) (m w : ℕ) (g : List ℕ × ℕ) → g ≡ with_cell (cell_along k c w) (l, m) → (l, m) ≡ gathered k c s w
    → g ≡ gathered k c s (w + 1)
unfolding gathered
gathered-more k c s l m w g e f = rw add-one (e ∙ ap (with_cell (cell_along k c w)) f)

-- how many are gathered: the ways that lead to a touching cell
pub gathered_count : (k : ℕ) (c : Cube) (s : List ℕ) (w : ℕ) → (gathered k c s w).1 ≡ passes (touching_way (2 ^ k - sum c) c) w
unfolding gathered passes with_cell cell_along
gathered_count k c s zero = refl
gathered_count k c s (suc w) = go (touching_way (2 ^ k - sum c) c w) (gathered_count k c s w)
  where
    go :
        (b : Bool) → (gathered k c s w).1 ≡ passes (touching_way (2 ^ k - sum c) c) w
        → (with_cell (cond b (some (number k (place_of_cube k (moved_cube w c)))) none) (gathered k c s w)).1
        ≡ passes (touching_way (2 ^ k - sum c) c) w + cond b 1 0
    go true e = omega (arith, e)
    go false e = omega (arith, e)

module _ (k : ℕ) (p : Place) (o : Occurs k p) (c : Cube) (is : c ≡ cube_of k p) where
  pub rooms : (sum c + (2 ^ k - sum c) ≡ 2 ^ k) × (1 ≤ 2 ^ k - sum c) × (2 ^ k - sum c ≤ 2)
  rooms = omega (arith, ap sum is, sum_cube k p o, room_small p.1)

  -- a way that finds a cell finds room for it
  pub room_found : (s : List ℕ) (w x : ℕ) → w < 27 → cell_along k c w ≡ some x → (gathered k c s w).1 < 12
  unfolding passes
  room_found s w x h e =
      let t = (along_way k c w x e).test in
      let d : c ≡ cube_of k (place k (number k p)) = is ∙ ap (cube_of k) (sym (place_number k p o)) in
      let f = subst (λ (d : Cube). passes (touching_way (2 ^ k - sum d) d) (suc w) ≤ 12) (sym d) (few k (number k p) (number_below k p o) (suc w) h) in
      omega (arith, gathered_count k c s w, rw t at f)

-- ---- the call

pub gather-is :
    (k n : ℕ) (s : List ℕ) → k ≤ max_level → n < cells k → length s ≡ 12
    → gather_call k n s ≡ gathered k (cube_of k (place k n)) s 27
unfolding gather_call
gather-is k n s h l e = rw (le-leb k max_level h, lt-ltb n (cells k) l, eq-eqb (length s) 12 e)

pub gather_other_length : (k n : ℕ) (s : List ℕ) → (length s ≡ 12 → ⊥) → gather_call k n s ≡ (s, 0)
unfolding gather_call
gather_other_length k n s h = go (leb k max_level && ltb n (cells k))
  where
    go : (b : Bool) → cond (b && eqb (length s) 12) (gathered k (cube_of k (place k n)) s 27) (s, 0) ≡ (s, 0)
    go true = rw (ne_eqb (length s) 12 h)
    go false = refl

-- where the place of cell n is refused
pub gather_refused : (k n x : ℕ) (s : List ℕ) → refused x ≡ place_call k n → gather_call k n s ≡ (s, 0)
unfolding gather_call
gather_refused k n x s e = go (leb k max_level) refl (ltb n (cells k)) refl
  where
    go :
        (a : Bool) → leb k max_level ≡ a → (b : Bool) → ltb n (cells k) ≡ b
        → cond (a && b && eqb (length s) 12) (gathered k (cube_of k (place k n)) s 27) (s, 0) ≡ (s, 0)
    go true p true q = given≢refused (accepts k n (place k n) (leb-true k max_level p) (ltb-true n (cells k) q) ∙ sym e)
    go true p false q = refl
    go false p b q = refl
