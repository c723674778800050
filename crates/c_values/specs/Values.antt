-- How an answer crosses to C: a number returned, 0 when the call is accepted and else the refusal's, and values written through pointers only when
-- it is accepted.
use Rattle.std.specs.Prelude.{ℕ, Float}
use Rattle.std.specs.Float.{nan}
use Rattle.refusal.specs.Answer.{Answer, given, refused}
use Rattle.cell.specs.Cell.{no_cell}
use Rattle.mask.specs.Mask.{Inclusion, within, lacks}
use Rattle.chart.specs.Chart.{Reading, fresh, carried, gap}

-- what is returned, and what the pointers show afterwards, where they showed `before`
abbrev pub told : {A : Type 0} → Answer A → A → ℕ × A
told (given a) before = (0, a)
told (refused n) before = (n, before)

-- the same of a call that is lent slices, with what they hold afterwards
abbrev pub told_lent : {A S : Type 0} → Answer A × S → A → (ℕ × A) × S
told_lent result before = (told result.0 before, result.1)

-- what is returned where a call has no value to give beyond its work
abbrev pub status : {A : Type 0} → Answer A → ℕ
status (given a) = 0
status (refused n) = n

-- and with the slices that it was lent
abbrev pub returned : {A S : Type 0} → Answer A × S → ℕ × S
returned result = (status result.0, result.1)

-- an answer's value in C's form
abbrev pub in_c : {A B : Type 0} → (A → B) → Answer A → Answer B
in_c f (given a) = given (f a)
in_c f (refused n) = refused n

-- within as one number: the lowest cell that is in the first mask and not in the second, or 4,294,967,295
abbrev pub lacking_cell : Inclusion → ℕ
lacking_cell within = no_cell
lacking_cell (lacks c) = c

-- a reading as kind, temperature and days: 0 fresh, 1 carried, 2 gap, which has a NaN and 255 days
abbrev pub kind_temperature_days : Reading → ℕ × Float × ℕ
kind_temperature_days (fresh t) = (0, t, 0)
kind_temperature_days (carried t days) = (1, t, days)
kind_temperature_days gap = (2, nan, 255)
