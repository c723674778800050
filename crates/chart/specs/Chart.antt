-- Charts and ages (docs/RULES.md, 7): a chart of level k is 8 × 4^k temperatures, 32-bit floats, and as many age bytes.
use Rattle.std.specs.Prelude.{ℕ, ◌≤◌, ◌<◌, Bool, true, false, ◌&&◌, ◌||◌, not, cond, List, [], ◌∷◌, ◌⊎◌, ◌≡◌, ltb, eqb, pos, get_or, Float}
use Rattle.std.specs.Float.Ieee as Ieee
use Rattle.std.specs.Float.{nan, fin}
use Rattle.refusal.specs.Answer.{Answer, Test, in_order, done}
use Rattle.refusal.specs.Tests.{bad_level, bad_length}
use Rattle.cell.specs.Cell.{cells, bad_cell}
use Rattle.mask.specs.Mask.{max_mask_level}
use Rattle.chart.specs.declared.Reading as code
use Rattle.chart.specs.declared.Reading.TheVariants as code-reading

-- ---- whether two slices are a chart of a level

-- refused 1, 5
abbrev pub chart_tests : ℕ → List Float → List ℕ → List Test
chart_tests k temps ages = bad_level max_mask_level k ∷ bad_length (cells k) temps ∷ bad_length (cells k) ages ∷ []

abbrev pub chart_call : ℕ → List Float → List ℕ → Answer (Unit {0})
chart_call k temps ages = in_order (chart_tests k temps ages) done

-- ---- the range

-- −5.0 and 45.0: a float is its sign (true for minus), a whole number and a power of 2
abbrev pub lowest : Float
lowest = fin true 5 (pos 0)

abbrev pub highest : Float
highest = fin false 45 (pos 0)

-- in range: from −5.0 to 45.0, both included. A NaN is out of range, since each comparison is false of it
unfoldable pub in_range : Float → Bool
in_range t = Ieee.le lowest t && Ieee.le t highest

-- ---- the reading of a cell

-- what a cell reads: fresh or carried with its temperature, carried with its days too, or a gap with neither
pub data Reading : Type 0 where
  fresh : Float → Reading
  carried : Float → ℕ → Reading
  gap : Reading

-- how the code says it
abbrev pub reading_is : code.Reading → Reading
reading_is (code-reading.Fresh t) = fresh t
reading_is (code-reading.Carried t days) = carried t days
reading_is code-reading.Gap = gap

-- the highest age that is no gap
abbrev pub max_days : ℕ
max_days = 30

-- age 0 is fresh and ages to 30 are carried; older ages, and all temperatures that are not in range, are gaps
unfoldable pub reading_of : Float → ℕ → Reading
reading_of t age = cond (ltb max_days age || not (in_range t)) gap (cond (eqb age 0) (fresh t) (carried t age))

-- what each reading says of a temperature and an age; fresh: age 0, and a temperature in range that is u
abbrev pub Fresh : Float → ℕ → Float → Type 0
Fresh t age u = (age ≡ 0) × (t ≡ u) × (in_range u ≡ true)

-- carried: age d, 1 to 30, and a temperature in range that is u
abbrev pub Carried : Float → ℕ → Float → ℕ → Type 0
Carried t age u d = (age ≡ d) × (1 ≤ d) × (d ≤ 30) × (t ≡ u) × (in_range u ≡ true)

-- gap: age above 30, or a temperature that is not in range
abbrev pub Gap : Float → ℕ → Type 0
Gap t age = (30 < age) ⊎ (in_range t ≡ false)

-- the temperature and the age of cell c in the two slices of a chart, and what the cell reads (no call reads past the end of a slice)
abbrev pub temperature_at : List Float → ℕ → Float
temperature_at temps c = get_or temps c nan

abbrev pub age_at : List ℕ → ℕ → ℕ
age_at ages c = get_or ages c 0

abbrev pub reading_at : List Float → List ℕ → ℕ → Reading
reading_at temps ages c = reading_of (temperature_at temps c) (age_at ages c)

-- refused 1, 4, 5
abbrev pub reading_tests : ℕ → List Float → List ℕ → ℕ → List Test
reading_tests k temps ages c = bad_level max_mask_level k ∷ bad_cell k c ∷ bad_length (cells k) temps ∷ bad_length (cells k) ages ∷ []

abbrev pub reading_call : ℕ → List Float → List ℕ → ℕ → Answer Reading
reading_call k temps ages c = in_order (reading_tests k temps ages c) (reading_at temps ages c)
