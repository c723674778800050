-- What the calls on rows do to a set's points: the start, a ring, and the end. Assumes nothing.
use Prim.Native.Nat.{ℕ, ◌+◌, ◌≤◌, ◌^◌}
use mathlib.Core.Path.{◌≡◌, sym, ap, subst, ◌∙◌}
use mathlib.Core.Bool.{Bool, true, false, ◌&&◌, cond}
use mathlib.Core.List.{List}
use native.Mathlib.Omega.{arith}
use borrow.Author.Tests.{leb-true, le-leb, eq-eqb}
use lib.Dec.{leb, ltb, eqb}
use lib.ListN.{length}
use Rattle.refusal.proofs.Tests.{both, parts}
use Rattle.bitset.specs.Bits.{Bytes, marked, bytes_of}
use Rattle.bitset.proofs.Laws.{settled, bytes_of_cong}
use Rattle.cell.specs.Cell.{up, down, span, cells}
use Rattle.corner.specs.Corner.{touches}
use Rattle.walk.proofs.Reach.{grown_zero, grown_grown}
use Rattle.rows.specs.Rows.{lit, octant_at, row_at, col_at, inside}
use Rattle.raster.specs.Raster.{is_mask, cell_at, cell_lit}
use Rattle.seam.specs.Seam.{joined}
use Rattle.seam.proofs.Laws.{joined_stays}
use Rattle.stencil.specs.Stencil.{points_of, near_of, up_of, down_of, in_rows, in_cell_rows}
use Rattle.spread.specs.Spread.{Points}
use Rattle.spread.proofs.Cells.{corners_of_lem, past_rows}
use Rattle.spread.proofs.Spread.{points_joined, corners_near, cells_grown, points_cong}
use Rattle.dilate.specs.Dilate.{grown_cells}

-- a set that is said past a test that holds
pub past_test : (t : Bool) (P Q R : ℕ → Bool) → t ≡ true → ((i : ℕ) → P i ≡ cond t (Q i) (R i)) → (i : ℕ) → P i ≡ Q i
past_test t P Q R e f i = f i ∙ ap (λ (b : Bool). cond b (Q i) (R i)) e

-- past the rows is no point of a level
not_inside : (k : ℕ) → k ≤ 8 → (i : ℕ) → in_rows i ≡ false → inside k i ≡ false
not_inside k h i e = past_rows k (inside k) h (λ j p. p) i e

-- the spot of a down cell is that of a point
cell_inside : (k : ℕ) (A : ℕ → Bool) (i : ℕ) → cell_at down k A i ≡ true → inside k i ≡ true
unfolding cell_at inside span
cell_inside k A i e =
    let o = ltb (octant_at i) 8 in
    let s = leb (row_at i + col_at i + 2) (2 ^ k) in
    let p = parts (leb 640 i) (o && s) (parts (leb 640 i && (o && s)) _ e).0 in
    let q = parts o s p.1 in
    let l = leb-true (row_at i + col_at i + 2) (2 ^ k) q.1 in
    both (leb 640 i) _ p.0 (both o _ q.0 (le-leb (row_at i + col_at i) (2 ^ k) (omega arith)))

module _ (k : ℕ) (h : k ≤ 8) where
  -- ---- one ring

  module _ (P N W N' N'' : ℕ → Bool)
      (near : (i : ℕ) → N' i ≡ cond (in_rows i) (W i && near_of P i) (N i))
      (join : (i : ℕ) → N'' i ≡ cond (leb k 8) (joined k N' i) (N' i))
      (clear : (i : ℕ) → in_rows i ≡ false → N i ≡ false) where
    joins : (i : ℕ) → N'' i ≡ joined k N' i
    joins = past_test (leb k 8) N'' (joined k N') N' (le-leb k 8 h) join

    pub ring_clear : (i : ℕ) → in_rows i ≡ false → N'' i ≡ false
    ring_clear i e =
        joins i ∙ joined_stays k N' i (not_inside k h i e) ∙ near i
        ∙ ap (λ (b : Bool). cond b (W i && near_of P i) (N i)) e ∙ clear i e

    pub ring_spreads : ((i : ℕ) → W i ≡ inside k i) → (A : ℕ → Bool) → Points k P A → Points k N'' (grown_cells k 1 A)
    ring_spreads w A s = points_joined k N' (grown_cells k 1 A) h (corners_near k P A h s W N' N w near clear) N'' joins

  -- ---- the start: a mask's cells in rows, their points, joined

  module _ (a : List ℕ) (l : length a ≡ 4 ^ k) where
    pub mask_fits : is_mask k a ≡ true
    unfolding is_mask
    mask_fits = both (leb k 8) (eqb (length a) (4 ^ k)) (le-leb k 8 h) (eq-eqb (length a) (4 ^ k) l)

    pub start : (U U' D D' P P' P'' : ℕ → Bool) →
        ((i : ℕ) → U' i ≡ cond (is_mask k a) (cell_at up k (marked a) i) (U i)) →
        ((i : ℕ) → D' i ≡ cond (is_mask k a) (cell_at down k (marked a) i) (D i)) →
        ((i : ℕ) → P' i ≡ cond (in_rows i) (points_of U' D' i) (P i)) →
        ((i : ℕ) → P'' i ≡ cond (leb k 8) (joined k P' i) (P' i)) → ((i : ℕ) → P i ≡ false) →
        Points k P'' (marked a)
    start U U' D D' P P' P'' us ds ps js z =
        points_joined k P' (marked a) h
        (corners_of_lem k (marked a) U' D' P' P h
        (past_test (is_mask k a) U' (cell_at up k (marked a)) U mask_fits us)
        (past_test (is_mask k a) D' (cell_at down k (marked a)) D mask_fits ds) ps (λ i e. z i))
        P'' (past_test (leb k 8) P'' (joined k P') P' (le-leb k 8 h) js)

    -- past the rows no cell is set
    pub cells_clear : (D D' : ℕ → Bool) → ((i : ℕ) → D' i ≡ cond (is_mask k a) (cell_at down k (marked a) i) (D i)) →
        (i : ℕ) → in_rows i ≡ false → D' i ≡ false
    cells_clear D D' ds =
        past_rows k D' h (λ i e.
        cell_inside k (marked a) i (sym (past_test (is_mask k a) D' (cell_at down k (marked a)) D mask_fits ds i) ∙ e))

    -- ---- the end: the cells that have a point, as a mask

    pub finish : (A P : ℕ → Bool) (m : ℕ) (u u₀ d d₀ out : List ℕ) → Points k P (grown_cells k m A) →
        ((i : ℕ) → lit u i ≡ cond (in_cell_rows i) (up_of P i) (lit u₀ i)) →
        ((i : ℕ) → lit d i ≡ cond (in_cell_rows i) (down_of P i) (lit d₀ i)) →
        out ≡ cond (is_mask k a) (bytes_of (4 ^ k) (cell_lit k u d)) a → out ≡ bytes_of (4 ^ k) (grown_cells k (1 + m) A)
    finish A P m u u₀ d d₀ out s us ds e =
        e ∙ ap (λ (b : Bool). cond b (bytes_of (4 ^ k) (cell_lit k u d)) a) mask_fits
        ∙ bytes_of_cong (4 ^ k) (cell_lit k u d) (grown_cells k (1 + m) A)
        (λ c b. cells_grown k P (grown_cells k m A) h s u u₀ d d₀ us ds c b ∙ grown_grown (cells k) (touches k) 1 m A c)

    -- no ring: the mask itself
    pub none : Bytes a → a ≡ bytes_of (4 ^ k) (grown_cells k 0 (marked a))
    none b = settled (4 ^ k) a (grown_cells k 0 (marked a)) l b (λ c e. sym (grown_zero (cells k) (touches k) (marked a) c e))

-- ---- rings after rings

pub after : (k m n : ℕ) (A P : ℕ → Bool) → Points k P (grown_cells k m (grown_cells k n A)) → Points k P (grown_cells k (m + n) A)
after k m n A P s = points_cong k P (grown_cells k m (grown_cells k n A)) (grown_cells k (m + n) A) (λ c h. grown_grown (cells k) (touches k) m n A c) s

-- none, and as many as were asked for
pub no_more : (k : ℕ) (A P : ℕ → Bool) → Points k P A → Points k P (grown_cells k 0 A)
no_more k A P s = points_cong k P A (grown_cells k 0 A) (λ c h. sym (grown_zero (cells k) (touches k) A c h)) s

pub as_many : (k m n : ℕ) (A P : ℕ → Bool) → m ≡ n → Points k P (grown_cells k m A) → Points k P (grown_cells k n A)
as_many k m n A P e s = subst (λ (x : ℕ). Points k P (grown_cells k x A)) e s
