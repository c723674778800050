-- A mask's cells in rows, and back: up cells in one set of rows, down cells in another, each at the spot of its octant, row and column.
use Rattle.std.specs.Prelude.{ℕ, ◌*◌, ◌^◌, Bool, ◌&&◌, List, leb, ltb, eqb, length}
use Rattle.cell.specs.Cell.{Triangle, up, down, span, place, number}
use Rattle.mask.specs.Mask.{max_mask_level}
use Rattle.rows.specs.Rows.{lit, first_word, spot, octant_at, row_at, col_at}

-- whether a slice is a mask of level k
unfoldable pub is_mask : ℕ → List ℕ → Bool
is_mask k a = leb k max_mask_level && eqb (length a) (4 ^ k)

-- whether a spot is that of a cell of level k of one kind, `up` or `down`, that is in a set
unfoldable pub cell_at : (ℕ → ℕ → Triangle) → ℕ → (ℕ → Bool) → ℕ → Bool
cell_at kind k A i =
    leb (64 * first_word) i && (ltb (octant_at i) 8 && leb (span (kind (row_at i) (col_at i))) (2 ^ k))
    && A (number k (octant_at i, kind (row_at i) (col_at i)))

-- whether a cell's spot is set, in the rows of its kind
unfoldable pub triangle_lit : List ℕ → List ℕ → ℕ → Triangle → Bool
triangle_lit u d o (up a b) = lit u (spot o a b)
triangle_lit u d o (down a b) = lit d (spot o a b)

unfoldable pub cell_lit : ℕ → List ℕ → List ℕ → ℕ → Bool
cell_lit k u d c = triangle_lit u d (place k c).0 (place k c).1
