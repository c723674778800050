-- Rows in which all steps were taken hold exactly the cells that can be reached. Assumes nothing.
use Prim.Native.Nat.{ℕ, zero, suc, ◌^◌, ◌≤◌, ◌<◌}
use mathlib.Core.Path.{◌≡◌, refl, sym, ap, subst, ◌∙◌}
use mathlib.Core.Bool.{Bool, true, not}
use mathlib.Core.List.{List}
use mathlib.Core.Logic.{⊎_elim}
use borrow.Author.Tests.{eqb-true, eq-eqb}
use lib.Dec.{eqb}
use Rattle.refusal.proofs.Tests.{same_test, both, parts}
use Rattle.bitset.specs.Bits.{bytes_of, outside}
use Rattle.bitset.proofs.Laws.{bytes_of_cong}
use Rattle.cell.specs.declared.Kind.{Kind}
use Rattle.cell.specs.Cell.{Triangle, up, down, row, col, triangle_of, place, cells}
use Rattle.code.specs.Neighbours.{is_direct}
use Rattle.walk.specs.Reach.{reaches}
use Rattle.walk.proofs.Reach.{reach_zero, reach_out}
use Rattle.raster.specs.Raster.{cell_at, triangle_lit, cell_lit}
use Rattle.raster.proofs.Held.{at_cell, Found, found}
use Rattle.flood.specs.Flood.{lit_of, Near, Closed, Flooded}
use Rattle.fill.specs.Fill.{open_step, reachable}
use Rattle.fill.proofs.Laws.{reachable_self, reachable_step}
use Rattle.fill.proofs.Beside.{kind_of, spot_of, direct_near, near_direct}

-- a triangle is that of its kind, row and column
triangle_again : (f : Triangle) → f ≡ triangle_of (kind_of f) (row f) (col f)
unfolding kind_of row col
triangle_again (up a b) = refl
triangle_again (down a b) = refl

-- whether a cell's spot is set
triangle_spot : (u d : List ℕ) (o : ℕ) (f : Triangle) → triangle_lit u d o f ≡ lit_of u d (kind_of f) (spot_of (o, f))
unfolding triangle_lit kind_of spot_of row col
triangle_spot u d o (up a b) = refl
triangle_spot u d o (down a b) = refl

cell_spot : (k : ℕ) (u d : List ℕ) (c : ℕ) → cell_lit k u d c ≡ lit_of u d (kind_of (place k c).1) (spot_of (place k c))
unfolding cell_lit
cell_spot k u d c = triangle_spot u d (place k c).0 (place k c).1

module _ (k o : ℕ) (A : ℕ → Bool) (low : k ≤ 8) (ho : o < cells k) (ou od u₀ d₀ u d : List ℕ)
    (opened : (t : Kind) (i : ℕ) → lit_of ou od t i ≡ cell_at (triangle_of t) k (outside A) i)
    (start : (t : Kind) (i : ℕ) → lit_of u₀ d₀ t i ≡ cell_at (triangle_of t) k (eqb o) i)
    (flooded : Flooded k ou od u₀ d₀ u d) where
  abbrev R : ℕ → Bool
  R c = reachable k A o c

  -- a cell's rows and spot, which holds whether the cell is in a set
  abbrev kind_at : ℕ → Kind
  kind_at c = kind_of (place k c).1

  abbrev spot_at : ℕ → ℕ
  spot_at c = spot_of (place k c)

  in_cell : (X : ℕ → Bool) (c : ℕ) → c < cells k → cell_at (triangle_of (kind_at c)) k X (spot_at c) ≡ X c
  unfolding spot_of
  in_cell X c h =
      let f = (place k c).1 in
      at_cell k (kind_of f) X c (place k c).0 (row f) (col f) low h (ap (λ (g : Triangle). ((place k c).0, g)) (triangle_again f))

  -- ---- what is set can be reached

  -- the spots of the cells that can be reached
  abbrev P : Kind → ℕ → Bool
  P t i = cell_at (triangle_of t) k R i

  found_there : {t : Kind} {i : ℕ} {X : ℕ → Bool} (y : Found k t X i) → R y.cell ≡ true → P t i ≡ true
  found_there {t} y r = subst (λ (v : ℕ). P t v ≡ true) y.again (at_cell k t R y.cell _ _ _ low y.below y.at ∙ r)

  start_reached : (t : Kind) (i : ℕ) → lit_of u₀ d₀ t i ≡ true → P t i ≡ true
  start_reached t i e =
      let y = found k t (eqb o) i (sym (start t i) ∙ e) in
      found_there y (subst (λ (v : ℕ). R v ≡ true) (eqb-true o y.cell y.member) (reachable_self k A o))

  steps_reached : Closed (Near k) ou od P
  unfolding open_step outside
  steps_reached s t i j z p q =
      let x = found k s R i p in
      let y = found k t (outside A) j (sym (opened t j) ∙ q) in
      let step = near_direct k low s t i j z x.cell y.cell _ _ _ _ _ _ x.below y.below x.at x.again y.at y.again in
      let free = both (is_direct k x.cell y.cell) (not (A y.cell)) step y.member in
      found_there y (reachable_step k A o x.cell y.cell ho x.below y.below x.member free)

  sound : (c : ℕ) → c < cells k → cell_lit k u d c ≡ true → R c ≡ true
  sound c h p = sym (in_cell R c h) ∙ flooded.added.sound P steps_reached start_reached (kind_at c) (spot_at c) (sym (cell_spot k u d c) ∙ p)

  -- ---- what can be reached is set

  abbrev IsSet : ℕ → Type 0
  IsSet c = lit_of u d (kind_at c) (spot_at c) ≡ true

  outside_set : IsSet o
  outside_set = flooded.added.grows (kind_at o) (spot_at o) (start (kind_at o) (spot_at o) ∙ in_cell (eqb o) o ho ∙ eq-eqb o o refl)

  step_set : (e c : ℕ) → e < cells k → c < cells k → open_step k A e c ≡ true → IsSet e → IsSet c
  unfolding open_step outside
  step_set e c he hc p r =
      let q = parts (is_direct k e c) (not (A c)) p in
      let free = opened (kind_at c) (spot_at c) ∙ in_cell (outside A) c hc ∙ q.1 in
      flooded.closed low (kind_at e) (kind_at c) (spot_at e) (spot_at c) (direct_near k low e c he hc q.0) r free

  complete : (m c : ℕ) → c < cells k → reaches (cells k) (open_step k A) m o c ≡ true → IsSet c
  complete zero c h p = subst IsSet (eqb-true o c (sym (reach_zero (cells k) (open_step k A) o c) ∙ p)) outside_set
  complete (suc m) c h p = ⊎_elim
      (complete m c h)
      (λ (w : (e : ℕ) × (e < cells k) × (reaches (cells k) (open_step k A) m o e ≡ true) × (open_step k A e c ≡ true)).
      step_set w.0 c w.1 h w.3 (complete m w.0 w.1 w.2))
      (reach_out (cells k) (open_step k A) m o c p)

  pub reached_rows : bytes_of (4 ^ k) (cell_lit k u d) ≡ bytes_of (4 ^ k) (reachable k A o)
  unfolding reachable
  reached_rows = bytes_of_cong (4 ^ k) (cell_lit k u d) R
      (λ c h. same_test (cell_lit k u d c) (R c) (sound c h) (λ p. cell_spot k u d c ∙ complete (cells k) c h p))
