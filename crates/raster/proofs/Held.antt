-- Cells at their spots: what a spot holds of a set, and sets one after the other. Assumes nothing.
use Prim.Native.Nat.{ℕ, ◌^◌, ◌≤◌, ◌<◌}
use mathlib.Core.Path.{◌≡◌, refl, sym, ap, subst, ◌∙◌}
use mathlib.Core.Bool.{Bool, true, false, ◌&&◌, ◌||◌, and-or_distrib_left, and-false}
use mathlib.Core.List.{List}
use native.Mathlib.Omega.{arith}
use borrow.Author.Tests.{lt-ltb, le-leb, eq-eqb, ltb-true, leb-true, eqb-true}
use lib.Dec.{leb, ltb, eqb}
use Rattle.refusal.proofs.Tests.{same_test, clash, both, parts}
use Rattle.cell.specs.declared.Kind.{Kind}
use Rattle.cell.specs.declared.Kind.TheVariants.{Up, Down}
use Rattle.cell.specs.Cell.{triangle_of, up, down, span, Place, place, number, Occurs, cells}
use Rattle.cell.proofs.Laws.{place_occurs, place_number, number_place, number_below, triangle_bounds}
use Rattle.cell.proofs.Answers.{Given}
use Rattle.rows.specs.Rows.{lit, spot, octant_at, row_at, col_at}
use Rattle.rows.proofs.Spots.{spot_again, size_low}
use Rattle.raster.specs.Raster.{cell_at}
use Rattle.raster.specs.inside.Pieces.{Added}

-- ---- one spot

-- row and column of a cell of a level to 8 are below 256
pub place_small : (k : ℕ) (t : Kind) (o a b : ℕ) → k ≤ 8 → Occurs k (o, triangle_of t a b) → (o < 8) × (a < 256) × (b < 256)
place_small k t o a b h c =
    let m = size_low k h in
    let w = triangle_bounds t a b (2 ^ k) c.1 in
    (c.0, omega arith, omega arith)

-- at a cell's spot stands whether the cell is in the set
pub at_cell : (k : ℕ) (t : Kind) (A : ℕ → Bool) (c o a b : ℕ) → k ≤ 8 → c < cells k → place k c ≡ (o, triangle_of t a b) →
    cell_at (triangle_of t) k A (spot o a b) ≡ A c
unfolding cell_at
at_cell k t A c o a b h l e =
    let occ : Occurs k (o, triangle_of t a b) = subst (Occurs k) e (place_occurs k c l) in
    let w = place_small k t o a b h occ in
    let eo : octant_at (spot o a b) ≡ o = omega arith in
    let ea : row_at (spot o a b) ≡ a = omega arith in
    let eb : col_at (spot o a b) ≡ b = omega arith in
    let n : number k (o, triangle_of t a b) ≡ c = ap (number k) (sym e) ∙ number_place k c in
    rw (le-leb 640 (spot o a b) (omega arith), eo, ea, eb, lt-ltb o 8 occ.0, le-leb (span (triangle_of t a b)) (2 ^ k) occ.1, n)

-- and a spot that holds one of the set is the spot of such a cell
pub record Found (k : ℕ) (t : Kind) (A : ℕ → Bool) (i : ℕ) : Type 0 where
  pub cell : ℕ
  pub below : cell < cells k
  pub at : place k cell ≡ (octant_at i, triangle_of t (row_at i) (col_at i))
  pub again : spot (octant_at i) (row_at i) (col_at i) ≡ i
  pub member : A cell ≡ true

pub found : (k : ℕ) (t : Kind) (A : ℕ → Bool) (i : ℕ) → cell_at (triangle_of t) k A i ≡ true → Found k t A i
unfolding cell_at
found k t A i e =
    let p = parts _ _ e in
    let q = parts _ _ p.0 in
    let s = parts _ _ q.1 in
    let f : Place = (octant_at i, triangle_of t (row_at i) (col_at i)) in
    let occ : Occurs k f = (ltb-true _ _ s.0, leb-true _ _ s.1) in
    record {
      cell = number k f;
      below = number_below k f occ;
      at = place_number k f occ;
      again = spot_again i (leb-true 640 i q.0);
      member = p.1;
    }

-- ---- sets

-- a spot's place, and whether the level has a cell there
abbrev place_at : Kind → ℕ → Place
place_at t i = (octant_at i, triangle_of t (row_at i) (col_at i))

abbrev has_cell : ℕ → Kind → ℕ → Bool
has_cell k t i = leb 640 i && (ltb (octant_at i) 8 && leb (span (triangle_of t (row_at i) (col_at i))) (2 ^ k))

pub none_at : (k : ℕ) (t : Kind) (i : ℕ) → cell_at (triangle_of t) k (λ c. false) i ≡ false
unfolding cell_at
none_at k t i = and-false (has_cell k t i)

-- sets with the same cells of the level
at_swap : (k : ℕ) (t : Kind) (A B : ℕ → Bool) (i : ℕ) → ((c : ℕ) → c < cells k → A c ≡ B c) →
    cell_at (triangle_of t) k A i ≡ true → cell_at (triangle_of t) k B i ≡ true
unfolding cell_at found
at_swap k t A B i f e =
    let p = parts (has_cell k t i) (A (number k (place_at t i))) e in
    both (has_cell k t i) (B (number k (place_at t i))) p.0 (sym (f (number k (place_at t i)) (found k t A i e).below) ∙ p.1)

pub at_cong : (k : ℕ) (t : Kind) (A B : ℕ → Bool) (i : ℕ) → ((c : ℕ) → c < cells k → A c ≡ B c) → cell_at (triangle_of t) k A i ≡ cell_at (triangle_of t) k B i
at_cong k t A B i f = same_test (cell_at (triangle_of t) k A i) (cell_at (triangle_of t) k B i) (at_swap k t A B i f) (at_swap k t B A i (λ c h. sym (f c h)))

pub at_union : (k : ℕ) (t : Kind) (A B : ℕ → Bool) (i : ℕ) → cell_at (triangle_of t) k (λ c. A c || B c) i ≡ (cell_at (triangle_of t) k A i || cell_at (triangle_of t) k B i)
unfolding cell_at
at_union k t A B i = and-or_distrib_left (has_cell k t i) (A (number k (place_at t i))) (B (number k (place_at t i)))

-- ---- one cell

abbrev pub same_kind : Kind → Kind → Bool
same_kind Up Up = true
same_kind Up Down = false
same_kind Down Up = false
same_kind Down Down = true

never : {A : Type 0} {a b c d : ℕ} → up a b ≡ down c d → A
never e = let z : ◌≡◌ {A = ℕ} 0 1 = cc in absurd (omega arith)

-- a triangle has one kind, one row and one column
pub triangle_same : (s t : Kind) (a b c d : ℕ) → triangle_of t a b ≡ triangle_of s c d → (same_kind s t ≡ true) × (a ≡ c) × (b ≡ d)
triangle_same Up Up a b c d e = (refl, cc, cc)
triangle_same Up Down a b c d e = never (sym e)
triangle_same Down Up a b c d e = never e
triangle_same Down Down a b c d e = (refl, cc, cc)

pub kind_same : (s t : Kind) → same_kind s t ≡ true → s ≡ t
kind_same Up Up e = refl
kind_same Up Down e = clash e refl
kind_same Down Up e = clash e refl
kind_same Down Down e = refl

-- the set of one cell is at its spot, in the rows of its kind
pub one_at : (k : ℕ) (s t : Kind) (c o a b i : ℕ) → k ≤ 8 → c < cells k → place k c ≡ (o, triangle_of t a b) →
    cell_at (triangle_of s) k (eqb c) i ≡ (same_kind s t && eqb i (spot o a b))
one_at k s t c o a b i h l e = same_test (cell_at (triangle_of s) k (eqb c) i) (same_kind s t && eqb i (spot o a b)) there back
  where
    there : cell_at (triangle_of s) k (eqb c) i ≡ true → (same_kind s t && eqb i (spot o a b)) ≡ true
    there p =
        let g = found k s (eqb c) i p in
        let q : (o, triangle_of t a b) ≡ place_at s i = sym e ∙ ap (place k) (eqb-true c g.cell g.member) ∙ g.at in
        let f = triangle_same s t a b (row_at i) (col_at i) (ap (λ (r : Place). r.1) q) in
        let eo : o ≡ octant_at i = ap (λ (r : Place). r.0) q in
        both (same_kind s t) (eqb i (spot o a b)) f.0 (eq-eqb i (spot o a b) (sym g.again ∙ rw (eo, f.1, f.2)))

    back : (same_kind s t && eqb i (spot o a b)) ≡ true → cell_at (triangle_of s) k (eqb c) i ≡ true
    back p =
        let q = parts (same_kind s t) (eqb i (spot o a b)) p in
        rw (kind_same s t q.0, eqb-true i (spot o a b) q.1) (at_cell k t (eqb c) c o a b h l e ∙ eq-eqb c c refl)

pub one_added : (k : ℕ) (s t : Kind) (c o a b : ℕ) (q r : List ℕ) → k ≤ 8 → Given k c (o, triangle_of t a b) →
    ((i : ℕ) → lit r i ≡ (lit q i || (same_kind s t && eqb i (spot o a b)))) → Added (triangle_of s) k (eqb c) q r
one_added k s t c o a b q r h g f i = f i ∙ ap (λ (x : Bool). lit q i || x) (sym (one_at k s t c o a b i h g.below g.at))
