-- Where the code finds a cell and a block, once `place_at` gave the place: what is read and set there. Assumes nothing.
use Prim.Native.Nat.{ℕ, suc, ◌+◌, ◌*◌, ◌-◌, ◌/◌, ◌%◌, ◌≤◌, ◌<◌}
use mathlib.Core.Path.{◌≡◌, refl, sym, ap, subst, ◌∙◌}
use mathlib.Core.Bool.{Bool, false, ◌&&◌, ◌||◌}
use mathlib.Core.List.{List}
use native.Mathlib.Omega.{arith}
use lib.Dec.{ltb, eqb}
use Rattle.bitset.specs.Bits.{bit}
use Rattle.cell.specs.declared.Kind.{Kind}
use Rattle.cell.specs.declared.Place as declared
use Rattle.cell.specs.Cell.{triangle_of, place_of, place, cells}
use Rattle.cell.proofs.Answers.{Given, in-range}
use Rattle.rows.specs.Rows.{lit, octant_rows, spot_count, spot, spot_in}
use Rattle.rows.proofs.Spots.{spot_told}
use Rattle.rows.proofs.Words.{set_here}
use Rattle.raster.specs.Raster.{cell_lit}
use Rattle.raster.specs.inside.Pieces.{piece, Added}
use Rattle.raster.specs.inside.Squares.{in_square}
use Rattle.square.specs.Square.{quarter_of, seat_bit, Scattered}
use Rattle.raster.proofs.Held.{place_small, same_kind, one_added}
use Rattle.raster.proofs.Placed.{rows_of, square_of, triangle_lit_lem, block_small, square_added, seat_read}

-- the place of a cell's number, once its kind is told
located : (k n : ℕ) (p : declared.Place) (t : Kind) → k ≤ 8 → n < cells k → place_of p ≡ place k n → p.kind ≡ t → Given k n (p.octant, triangle_of t p.row p.col)
located k n p t h l e f = subst (λ (u : Kind). Given k n (p.octant, triangle_of u p.row p.col)) f (in-range k n (place_of p) (omega arith) l (sym e))

-- ---- a cell

module _ (k n : ℕ) (p : declared.Place) (t : Kind) {s : ℕ} (h : k ≤ 8) (l : n < cells k) (e : place_of p ≡ place k n) (f : p.kind ≡ t) (q : s ≡ spot_in p.octant p.row p.col) where
  spot_is : (s ≡ spot p.octant p.row p.col) × (s < spot_count)
  spot_is =
      let b = place_small k t p.octant p.row p.col h (located k n p t h l e f).occurs in
      spot_told p.octant p.row p.col q b.0 (omega arith) (omega arith)

  -- its spot in the rows of its kind
  pub cell_read : (u d : List ℕ) → lit (rows_of u d t) s ≡ cell_lit k u d n
  unfolding cell_lit
  cell_read u d = rw (spot_is.0, (located k n p t h l e f).at) (sym (triangle_lit_lem u d p.octant t p.row p.col))

  -- set, in the rows of its kind, and left in those of the other
  pub cell_set : (v : Kind) (a b : List ℕ) → ((i : ℕ) → lit b i ≡ (lit a i || (same_kind v t && (eqb i s && ltb i spot_count)))) → Added (triangle_of v) k (eqb n) a b
  cell_set v a b g = one_added k v t n p.octant p.row p.col a b h (located k n p t h l e f) (λ i. g i
      ∙ ap (λ (x : Bool). lit a i || (same_kind v t && x)) (set_here false i s spot_is.1 ∙ ap (eqb i) spot_is.0))

-- ---- a block

module _ (k n : ℕ) (p : declared.Place) (high : k ≤ 8) (low : 3 ≤ k) (l : n < cells (k - 3)) (e : place_of p ≡ place (k - 3) n) where
  three : k ≡ suc (suc (suc (k - 3)))
  three = omega arith

  pub block_fits : (p.octant < 8) × (p.row < 32) × (p.col < 32)
  block_fits = block_small k (k - 3) n p.octant p.kind p.row p.col high three (located (k - 3) n p p.kind (omega arith) l e refl)

  module _ (t : Kind) {slot : ℕ} (f : p.kind ≡ t) (q : slot ≡ (octant_rows * p.octant + 8 * p.row + 2) * 40 + p.col) where
    -- a square of the block's cells, joined with the rows of its kind
    pub block_added : (v : ℕ) (sq : Kind → Kind → ℕ) → Scattered v sq → (s : Kind) (r : ℕ) → ((p : ℕ) → p < 64 → bit r p ≡ bit (sq t s) (quarter_of p)) →
        (a b : List ℕ) → ((i : ℕ) → lit b i ≡ (lit a i || in_square 8 slot r i)) → Added (triangle_of s) k (piece 64 n (λ c. bit v (c % 64))) a b
    block_added = square_added k (k - 3) n p.octant t p.row p.col high three (located (k - 3) n p t (omega arith) l e f) slot q

    -- a cell's seat in its squares, as they were read in both rows
    pub block_read : (u d : List ℕ) (x y : ℕ) →
        ((p : ℕ) → p < 64 → bit x p ≡ lit u (8 * (slot + 40 * (p / 8)) + p % 8)) → ((p : ℕ) → p < 64 → bit y p ≡ lit d (8 * (slot + 40 * (p / 8)) + p % 8)) →
        (sq : Kind → Kind → ℕ) → ((s : Kind) (p : ℕ) → p < 64 → bit (sq t s) (quarter_of p) ≡ bit (square_of x y s) p) →
        (j : ℕ) → j < 64 → seat_bit sq t j ≡ cell_lit k u d (64 * n + j)
    block_read = seat_read k (k - 3) n p.octant t p.row p.col high three (located (k - 3) n p t (omega arith) l e f) slot q
