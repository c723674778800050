-- Blocks of 64 cells and the squares of eight rows of eight bits that they lie in. Between the two a square stands in quarters: its quarters follow
-- one another, and so do the quarters of each of them.
use Rattle.std.specs.Prelude.{ℕ, ◌+◌, ◌*◌, ◌/◌, ◌%◌, ◌<◌, ◌≡◌, Bool, true, ◌||◌}
use Rattle.bitset.specs.Bits.{bit}
use Rattle.cell.specs.declared.Kind.{Kind}
use Rattle.cell.specs.declared.Kind.TheVariants.{Up, Down}
use Rattle.cell.specs.Cell.{Triangle, up, down, row, col, child, triangle_of}

-- where bit p of a square in rows, p = 8 × row + column, stands in quarters: row and column take turns, bit by bit
unfoldable pub quarter_of : ℕ → ℕ
quarter_of p = 32 * (p / 32 % 2) + 16 * (p / 4 % 2) + 8 * (p / 16 % 2) + 4 * (p / 2 % 2) + 2 * (p / 8 % 2) + p % 2

-- where cell j of a block of a kind lies in the block's square: the triangle that its three digits lead to
unfoldable pub seat : Kind → ℕ → Triangle
seat t j = child (child (child (triangle_of t 0 0) (j / 16)) (j / 4 % 4)) (j % 4)

unfoldable pub kind_of : Triangle → Kind
kind_of (up a b) = Up
kind_of (down a b) = Down

-- four squares, by the kind of the block and that of the cells
unfoldable pub squares : ℕ → ℕ → ℕ → ℕ → Kind → Kind → ℕ
squares uu du ud dd Up Up = uu
squares uu du ud dd Up Down = du
squares uu du ud dd Down Up = ud
squares uu du ud dd Down Down = dd

-- the bit of a cell's seat, in the square of its kind, in quarters
unfoldable pub seat_bit : (Kind → Kind → ℕ) → Kind → ℕ → Bool
seat_bit sq t j = bit (sq t (kind_of (seat t j))) (quarter_of (8 * row (seat t j) + col (seat t j)))

-- the cells of a word are at their seats, and nothing else is
pub record Scattered (word : ℕ) (sq : Kind → Kind → ℕ) : Type 0 where
  pub at : (t : Kind) (j : ℕ) → j < 64 → seat_bit sq t j ≡ bit word j
  pub only : (t s : Kind) (p : ℕ) → p < 64 → bit (sq t s) (quarter_of p) ≡ true → (j : ℕ) × (j < 64) × (seat t j ≡ triangle_of s (p / 8) (p % 8))

-- a word has a cell where its seat in an up block or that in a down block is set
abbrev pub Gathered : (Kind → Kind → ℕ) → ℕ → Type 0
Gathered sq word = (j : ℕ) → j < 64 → bit word j ≡ (seat_bit sq Up j || seat_bit sq Down j)
