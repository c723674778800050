-- Reading and writing a stored border (docs/RULES.md, 8 and 9).
use Rattle.std.specs.Prelude.{ℕ, ◌+◌, ◌-◌, ◌^◌, Bool, true, false, ◌||◌, List, [], ◌∷◌, ◌++◌, leb, ltb, eqb, length, drop, get_or}
use Rattle.std.proofs.Math.Option.{Option}
use Rattle.refusal.specs.Answer.{Answer, given, refused, Test, ◌when◌, in_order, lending}
use Rattle.refusal.specs.Tests.{passes, bad_level}
use Rattle.varint.specs.Varint.{read_call}
use Rattle.cell.specs.Cell.{cells, max_level, bad_cell}
use Rattle.code.specs.Step.{bad_step, found_or}
use Rattle.border.specs.Stored.{value_of, code_bytes, unpacked, stored, walked, codes_between}

-- the most codes, and the most cells
abbrev pub max_codes : ℕ
max_codes = 4096

abbrev pub max_cells : ℕ
max_cells = max_codes + 1

-- 9: more than 4,096 codes
abbrev pub bad_count : ℕ → Test
bad_count n = 9 when ltb max_codes n

-- ---- reading

-- of a stored number: its value and the place after it, 0 where it is refused, which the test before hides; and 10 or 11 as a test
abbrev pub value : Answer (ℕ × ℕ) → ℕ
value (given (v, next)) = v
value (refused n) = 0

abbrev pub after : Answer (ℕ × ℕ) → ℕ
after (given (v, next)) = next
after (refused n) = 0

abbrev pub bad_number : Answer (ℕ × ℕ) → Test
bad_number (given a) = passes
bad_number (refused n) = n when true

-- level, start cell and number of codes, as they stand in the bytes one after another
unfoldable pub level_read : List ℕ → Answer (ℕ × ℕ)
level_read bs = read_call bs 0

unfoldable pub start_read : List ℕ → Answer (ℕ × ℕ)
start_read bs = read_call bs (after (level_read bs))

unfoldable pub count_read : List ℕ → Answer (ℕ × ℕ)
count_read bs = read_call bs (after (start_read bs))

-- the three, and the place after them
abbrev pub Header : Type 0
Header = ℕ × ℕ × ℕ × ℕ

abbrev pub header : List ℕ → Header
header bs = (value (level_read bs), value (start_read bs), value (count_read bs), after (count_read bs))

-- each of the three is tested as a stored number, 10 or 11, and then by its own bound: 1 for the level, 4 for the start, 9 for the count
abbrev pub header_tests : List ℕ → List Test
header_tests bs =
    bad_number (level_read bs) ∷ bad_level max_level (value (level_read bs))
    ∷ bad_number (start_read bs) ∷ bad_cell (value (level_read bs)) (value (start_read bs))
    ∷ bad_number (count_read bs) ∷ bad_count (value (count_read bs)) ∷ []

-- 12: pad bits are not zero. The bytes are one number, low byte first, and n codes are its lowest 3n bits: it has to be below 8^n
abbrev pub bad_padding : ℕ → List ℕ → Test
bad_padding n bs = 12 when leb (8 ^ n) (value_of 256 bs)

-- the cells of a border, by what its bytes begin with
abbrev pub cells_of : List ℕ → Header → Option (List ℕ)
cells_of bs (k, start, n, at) = walked k start (unpacked n (drop at bs))

-- after the header: the codes' bytes end early; bytes are left over, or pad bits not zero; no room for n + 1 cells; a step is missing
abbrev pub code_tests : List ℕ → ℕ → Header → List Test
code_tests bs room (k, start, n, at) =
    (10 when ltb (length bs) (at + code_bytes n))
    ∷ (12 when ltb (at + code_bytes n) (length bs)) ∷ bad_padding n (drop at bs)
    ∷ (5 when leb room n)
    ∷ bad_step (cells_of bs (k, start, n, at)) ∷ []

abbrev pub read_tests : List ℕ → ℕ → List Test
read_tests bs room = header_tests bs ++ code_tests bs room (header bs)

-- the cells read, none where a step is missing, which the test for 7 hides
abbrev pub cells_read : List ℕ → List ℕ
cells_read bs = found_or [] (cells_of bs (header bs))

-- the reader puts the cells into the first places of a slice, where the others stay, and answers the level and how many cells there are
abbrev pub read_border : List ℕ → List ℕ → Answer (ℕ × ℕ) × List ℕ
read_border bs out =
    lending
    (in_order (read_tests bs (length out)) ((header bs).0, length (cells_read bs))) out
    (cells_read bs ++ drop (length (cells_read bs)) out)

-- ---- writing

-- whether a list has a number that is not below a bound
unfoldable pub any_from : ℕ → List ℕ → Bool
any_from bound [] = false
any_from bound (n ∷ ns) = leb bound n || any_from bound ns

-- the codes that join cells one after another
abbrev pub codes_of : ℕ → List ℕ → Option (List ℕ)
codes_of k cs = codes_between k (get_or cs 0 0) (drop 1 cs)

-- the bytes written
abbrev pub border_bytes : ℕ → List ℕ → List ℕ
border_bytes k cs = stored k (get_or cs 0 0) (found_or [] (codes_of k cs))

-- the writer's tests in their order: level, no cells, too many codes, cells, steps, and last the room for the bytes
abbrev pub write_tests : ℕ → List ℕ → ℕ → List Test
write_tests k cs room =
    bad_level max_level k
    ∷ (5 when eqb (length cs) 0)
    ∷ bad_count (length cs - 1)
    ∷ (4 when any_from (cells k) cs)
    ∷ bad_step (codes_of k cs)
    ∷ (5 when ltb room (length (border_bytes k cs))) ∷ []

-- the writer puts the bytes into the first places of a slice, where the others stay, and answers how many bytes there are
abbrev pub write_border : ℕ → List ℕ → List ℕ → Answer ℕ × List ℕ
write_border k cs out =
    lending
    (in_order (write_tests k cs (length out)) (length (border_bytes k cs))) out
    (border_bytes k cs ++ drop (length (border_bytes k cs)) out)
