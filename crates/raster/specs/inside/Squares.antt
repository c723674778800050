-- Squares in the rows: what the private functions claim. No public contract cites this file.
use Rattle.std.specs.Prelude.{ℕ, ◌+◌, ◌*◌, ◌/◌, ◌%◌, Bool, ◌&&◌, eqb}
use Rattle.bitset.specs.Bits.{bit}
use Rattle.rows.specs.Rows.{word_count}
use Rattle.walk.specs.Reach.{any_below}

-- the bytes of one set of rows
abbrev pub byte_count : ℕ
byte_count = 8 * word_count

-- whether bit i of the rows is set in one of the first n rows of a square, whose first row is byte `slot` of the rows: a row is 40 bytes
unfoldable pub in_square : ℕ → ℕ → ℕ → ℕ → Bool
in_square n slot square i = any_below n (λ x. eqb (i / 8) (slot + 40 * x) && bit square (8 * x + i % 8))
