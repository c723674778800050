-- One day of a chart (docs/RULES.md, 7.3): from new temperatures and a cloud mask it makes the chart's two slices anew, and it
-- sums up the chart that it leaves.
use Rattle.std.specs.Prelude.{ℕ, zero, suc, ◌+◌, ◌^◌, ◌<◌, Bool, true, false, ◌&&◌, not, cond, List, [], ◌∷◌, ◌++◌, ◌≡◌, leb, ltb, eqb, pos, Float}
use Rattle.std.specs.Float.Ieee as Ieee
use Rattle.std.specs.Float.{fin}
use Rattle.refusal.specs.Answer.{Answer, Test, ◌when◌, in_order, lending}
use Rattle.refusal.specs.Tests.{bad_level, bad_length}
use Rattle.bitset.specs.Bits.{marked}
use Rattle.cell.specs.Cell.{cells}
use Rattle.mask.specs.Mask.{max_mask_level}
use Rattle.chart.specs.Chart.{in_range, Reading, fresh, carried, gap, max_days, temperature_at, age_at, reading_at}
use Rattle.day.specs.declared.Summary as declared

-- ---- what a day leaves

-- 0.0
abbrev pub nought : Float
nought = fin false 0 (pos 0)

-- temperature and age of one cell, with day limit d: open and with a new temperature in range, the cell has that one at age 0. Otherwise an old
-- temperature in range stays and is a day older, as long as that is within d; and what is left is a gap, 0.0 at age 255
unfoldable pub day_of : Bool → Float → Float → ℕ → ℕ → Float × ℕ
day_of covered new old age d = cond (not covered && in_range new) (new, 0) (cond (leb (age + 1) d && in_range old) (old, age + 1) (nought, 255))

-- cell c, from the new temperatures, the cloud mask and the chart before
abbrev pub day_at : ℕ → List Float → List ℕ → List Float → List ℕ → ℕ → Float × ℕ
day_at d new clouds temps ages c = day_of (marked clouds c) (temperature_at new c) (temperature_at temps c) (age_at ages c) d

-- the list of n values of a function, in order
unfoldable pub list_of : {A : Type 0} → ℕ → (ℕ → A) → List A
list_of zero f = []
list_of (suc n) f = list_of n f ++ (f n ∷ [])

-- the two slices after the day, n cells each
unfoldable pub temperatures_after : ℕ → ℕ → List Float → List ℕ → List Float → List ℕ → List Float
temperatures_after n d new clouds temps ages = list_of n (λ c. (day_at d new clouds temps ages c).0)

unfoldable pub ages_after : ℕ → ℕ → List Float → List ℕ → List Float → List ℕ → List ℕ
ages_after n d new clouds temps ages = list_of n (λ c. (day_at d new clouds temps ages c).1)

-- what cell c reads in the chart of n cells that the day leaves
abbrev pub reads_after : ℕ → ℕ → List Float → List ℕ → List Float → List ℕ → ℕ → Reading
reads_after n d new clouds temps ages = reading_at (temperatures_after n d new clouds temps ages) (ages_after n d new clouds temps ages)

-- ---- the summary

-- how many cells are fresh, and the lowest and the highest of their temperatures
pub record Summary : Type 0 where
  pub count : ℕ
  pub coldest : Float
  pub warmest : Float

-- with none fresh: 0, and 0.0 twice
abbrev pub none_fresh : Summary
none_fresh = record { count = 0; coldest = nought; warmest = nought }

-- a fresh cell more: the first of all is coldest and warmest; of equal temperatures the one of the lowest cell stays
unfoldable pub with_fresh : Summary → Float → Summary
with_fresh s t =
    cond (eqb s.count 0)
    (record { count = 1; coldest = t; warmest = t })
    (record {
      count = s.count + 1;
      coldest = cond (Ieee.lt t s.coldest) t s.coldest;
      warmest = cond (Ieee.lt s.warmest t) t s.warmest;
    })

-- a cell more: only fresh ones count
unfoldable pub with_cell : Summary → Reading → Summary
with_cell s (fresh t) = with_fresh s t
with_cell s (carried t days) = s
with_cell s gap = s

-- whether a reading is fresh
unfoldable pub is_fresh : Reading → Bool
is_fresh (fresh t) = true
is_fresh (carried t d) = false
is_fresh gap = false

-- the first n cells of a chart, in cell order, by what each reads
unfoldable pub summary_of : ℕ → (ℕ → Reading) → Summary
summary_of zero reads = none_fresh
summary_of (suc n) reads = with_cell (summary_of n reads) (reads n)

-- x is the foremost of the fresh temperatures of n cells, by two comparisons, ahead and not behind; Reads c t says that cell c reads fresh with t
pub record Foremost (ahead notBehind : Float → Float → Bool) (n : ℕ) (Reads : ℕ → Float → Type 0) (x : Float) : Type 0 where
  -- it is the temperature of one of the cells
  pub cell : ℕ
  pub inside : cell < n
  pub own : Reads cell x
  -- it bounds those of all
  pub bounds : (c : ℕ) → c < n → (t : Float) → Reads c t → notBehind x t ≡ true
  -- it is ahead of those of all cells before its own: of equal temperatures it is the first in the order of cells
  pub first : (c : ℕ) → c < cell → (t : Float) → Reads c t → ahead x t ≡ true

-- the lowest and the highest temperature of the fresh cells
abbrev pub Coldest : ℕ → (ℕ → Float → Type 0) → Float → Type 0
Coldest = Foremost (λ x t. Ieee.lt x t) (λ x t. Ieee.le x t)

abbrev pub Warmest : ℕ → (ℕ → Float → Type 0) → Float → Type 0
Warmest = Foremost (λ x t. Ieee.lt t x) (λ x t. Ieee.le t x)

-- ---- the call

-- 6: days above 30
abbrev pub bad_days : ℕ → Test
bad_days d = 6 when ltb max_days d

-- refused 1, 5, 6
abbrev pub day_tests : ℕ → ℕ → List Float → List ℕ → List Float → List ℕ → List Test
day_tests k d new clouds temps ages =
    bad_level max_mask_level k
    ∷ bad_length (cells k) temps ∷ bad_length (cells k) ages ∷ bad_length (cells k) new ∷ bad_length (4 ^ k) clouds
    ∷ bad_days d ∷ []

-- the summary of the chart that the day leaves
unfoldable pub summary_after : ℕ → ℕ → List Float → List ℕ → List Float → List ℕ → Summary
summary_after n d new clouds temps ages =
    summary_of n (reads_after n d new clouds temps ages)

-- the two slices of a chart
pub record Slices : Type 0 where
  pub temperatures : List Float
  pub ages : List ℕ

-- a day's answer, and the two slices that it leaves; a refused day leaves both as they were
abbrev pub day_call : ℕ → ℕ → List Float → List ℕ → List Float → List ℕ → Answer Summary × Slices
day_call k d new clouds temps ages =
    lending
    (in_order (day_tests k d new clouds temps ages) (summary_after (cells k) d new clouds temps ages))
    (record { temperatures = temps; ages = ages })
    (record {
      temperatures = temperatures_after (cells k) d new clouds temps ages;
      ages = ages_after (cells k) d new clouds temps ages;
    })

-- how the code says the summary
abbrev pub summary_is : declared.Summary → Summary
summary_is s = record { count = s.count; coldest = s.coldest; warmest = s.warmest }
