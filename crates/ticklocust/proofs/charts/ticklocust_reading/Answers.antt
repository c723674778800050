-- `ticklocust_reading` meets its contract: what the code computes for a gap is a NaN. Assumes nothing.
use mathlib.Core.Path.{refl}
use lib.Ieee as Ieee
use Rattle.ticklocust.proofs.charts.ticklocust_reading.Goals as goal

pub returns-in-Ok-Gap : goal.returns-in-Ok-Gap
unfolding Ieee.of_bits
returns-in-Ok-Gap c = rw (← c.reading_of.ensures, c.in-Ok-Gap.is, c.in-Ok-Gap.field-0-is) refl
