-- `octant_of` meets its contract: the northern octant is that of the longitude counted from the west, and the sign of the latitude says whether 4 is
-- added.
-- Assumes nothing.
use native.Mathlib.Omega.{arith}
use Rattle.position.specs.Position.{north_octant}
use Rattle.position.proofs.Signed.{same_number}
use Rattle.position.proofs.Laws.{octant_south, octant_north}
use Rattle.position.proofs.angle.octant_of.Goals as goal

pub returns-then-y-lt0 : goal.returns-then-y-lt0
unfolding north_octant
returns-then-y-lt0 c =
    let y = c.args.latitude.0 in
    rw (c.from_west.ensures, octant_south y c.args.longitude.0 (rw (same_number y (omega arith)) at c.if-y-lt0.true))

pub returns-else-y-lt0 : goal.returns-else-y-lt0
unfolding north_octant
returns-else-y-lt0 c =
    let y = c.args.latitude.0 in
    rw (c.from_west.ensures, octant_north y c.args.longitude.0 (rw (same_number y (omega arith)) at c.if-y-lt0.false))
