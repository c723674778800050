-- What the cell lister prints (docs/RULES.md, 10): a function of the bytes that it reads.
use Rattle.std.specs.Prelude.{ℕ, List, [], ◌∷◌, ◌++◌, take, replicate}
use Rattle.refusal.specs.Answer.{Answer, given, refused}
use Rattle.border.specs.Border.{max_cells, read_border}
use Rattle.text.specs.Text.{decimal, refusal_line}

-- each number in decimal and a line end
unfoldable pub lines : List ℕ → List ℕ
lines [] = []
lines (n ∷ ns) = decimal n ++ (10 ∷ []) ++ lines ns

-- `level` and a space
abbrev pub level_word : List ℕ
level_word = 108 ∷ 101 ∷ 118 ∷ 101 ∷ 108 ∷ 32 ∷ []

-- the word, the level and a line end
abbrev pub level_line : ℕ → List ℕ
level_line k = level_word ++ decimal k ++ (10 ∷ [])

-- of what the reader answers and the slice that it leaves: the level's line and a line for each cell, or the line of a refused call
abbrev pub listed : Answer (ℕ × ℕ) × List ℕ → List ℕ
listed (given (k, n), cells) = level_line k ++ lines (take n cells)
listed (refused i, cells) = refusal_line i

-- what is printed; a border has at most 4,097 cells, so the slice is never too short
abbrev pub output : List ℕ → List ℕ
output input = listed (read_border input (replicate max_cells 0))

-- the first bytes of the input, which decide what is printed: one more than the longest border has
abbrev pub front_bytes : ℕ
front_bytes = 1545
