-- Rows of bits: where the cells and the points of a level lie in words of 64 bits. Growing and filling work on these rows; no contract of
-- `grow` or `fill` and no demand cites this file.
-- Each octant has 258 rows of 320 bits, so that its rows t and columns r, up to 256 each, have a spot, and the row before the first and the
-- one after the last are empty. Two more rows stand before all octants.
use Rattle.std.specs.Prelude.{ℕ, ◌+◌, ◌*◌, ◌-◌, ◌/◌, ◌%◌, ◌^◌, Bool, cond, ◌&&◌, List, leb, ltb, get_or}
use Rattle.bitset.specs.Bits.{bit}

-- bit i of words of 64 bits, low bit first; past their end none is set
unfoldable pub lit : List ℕ → ℕ → Bool
lit s i = bit (get_or s (i / 64) 0) (i % 64)

-- the words of one set of rows, and its bits
abbrev pub word_count : ℕ
word_count = 10330

abbrev pub spot_count : ℕ
spot_count = 64 * word_count

-- the first word of the first row of octant 0, and the word after the last in which a cell lies
abbrev pub first_word : ℕ
first_word = 10

abbrev pub cells_end : ℕ
cells_end = 10320

-- the rows of an octant, and the bits of a row
abbrev pub octant_rows : ℕ
octant_rows = 258

abbrev pub row_spots : ℕ
row_spots = 320

-- the spot of row t and column r of octant o
abbrev pub spot : ℕ → ℕ → ℕ → ℕ
spot o t r = (octant_rows * o + t + 2) * row_spots + r

-- the same, and the first spot past all where there is no such octant, row or column
unfoldable pub spot_in : ℕ → ℕ → ℕ → ℕ
spot_in o t r = cond (ltb o 8 && (ltb t octant_rows && ltb r row_spots)) (spot o t r) spot_count

-- octant, row and column of a spot
abbrev pub octant_at : ℕ → ℕ
octant_at i = (i / row_spots - 2) / octant_rows

abbrev pub row_at : ℕ → ℕ
row_at i = (i / row_spots - 2) % octant_rows

abbrev pub col_at : ℕ → ℕ
col_at i = i % row_spots

-- whether a spot is that of a point of level k: T + R ≤ N
unfoldable pub inside : ℕ → ℕ → Bool
inside k i = leb (64 * first_word) i && (ltb (octant_at i) 8 && leb (row_at i + col_at i) (2 ^ k))
