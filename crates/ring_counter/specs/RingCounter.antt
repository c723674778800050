-- What the ring counter prints (docs/RULES.md, 10): a function of the bytes that it reads.
use Rattle.std.specs.Prelude.{ℕ, List, [], ◌∷◌, ◌++◌, get_or, drop}
use Rattle.refusal.specs.Answer.{Answer, given, refused, in_order}
use Rattle.refusal.specs.Tests.{bad_length}
use Rattle.bitset.specs.Bits.{marked, size}
use Rattle.cell.specs.Cell.{cells}
use Rattle.grow.specs.Grow.{grown_cells, bad_rings}
use Rattle.text.specs.Text.{decimal, refusal_line}

-- the length of a sound input: the rings in one byte, then a mask of level 5, which is 1,024 bytes
abbrev pub input_bytes : ℕ
input_bytes = 1025

-- of a ring count and a mask of level 5: the cells marked before growing and after it
abbrev pub counts : ℕ → List ℕ → ℕ × ℕ
counts m a = (size (cells 5) (marked a), size (cells 5) (grown_cells 5 m (marked a)))

-- of the input: refused 5 for any other length, 6
abbrev pub ring_counts : List ℕ → Answer (ℕ × ℕ)
ring_counts input = in_order (bad_length input_bytes input ∷ bad_rings (get_or input 0 0) ∷ []) (counts (get_or input 0 0) (drop 1 input))

-- a line: the two numbers with a space between them, or that of a refused call
abbrev pub line : Answer (ℕ × ℕ) → List ℕ
line (given c) = decimal c.0 ++ (32 ∷ []) ++ decimal c.1 ++ (10 ∷ [])
line (refused n) = refusal_line n

-- what is printed
abbrev pub output : List ℕ → List ℕ
output input = line (ring_counts input)

-- the first bytes of the input, which decide what is printed: one more than it may have
abbrev pub front_bytes : ℕ
front_bytes = 1026
