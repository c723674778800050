-- Cells taken piece by piece: what the private functions claim. No public contract cites this file.
use Rattle.std.specs.Prelude.{ℕ, ◌-◌, ◌/◌, ◌≡◌, Bool, cond, ◌&&◌, ◌||◌, List, ltb, eqb}
use Rattle.bitset.specs.Bits.{marked}
use Rattle.cell.specs.Cell.{Triangle, cells}
use Rattle.rows.specs.Rows.{lit}
use Rattle.raster.specs.Raster.{cell_at}

-- how many cells a piece of level k has, and how many pieces the level has: below level 3 a piece is a cell, and from there on the 64 cells of a block
unfoldable pub piece_size : ℕ → ℕ
piece_size k = cond (ltb k 3) 1 64

unfoldable pub piece_count : ℕ → ℕ
piece_count k = cond (ltb k 3) (cells k) (cells (k - 3))

-- the cells of a set that are in piece n, where each piece has `size` cells
unfoldable pub piece : ℕ → ℕ → (ℕ → Bool) → ℕ → Bool
piece size n A c = eqb (c / size) n && A c

-- those that are in the pieces before piece n
unfoldable pub earlier : ℕ → ℕ → (ℕ → Bool) → ℕ → Bool
earlier size n A c = ltb (c / size) n && A c

-- the spots of the cells of one kind that are in a set are set besides
abbrev pub Added : (ℕ → ℕ → Triangle) → ℕ → (ℕ → Bool) → List ℕ → List ℕ → Type 0
Added kind k A before after = (i : ℕ) → lit after i ≡ (lit before i || cell_at kind k A i)

-- the cells of a set are marked besides
abbrev pub Marked : (ℕ → Bool) → List ℕ → List ℕ → Type 0
Marked A before after = (c : ℕ) → marked after c ≡ (marked before c || A c)
