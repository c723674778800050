-- `from_west` meets its contract: a longitude in range is at most two quarters below zero, so the sum is a natural number below four quarters.
-- Assumes nothing.
use mathlib.Core.Path.{ap}
use native.Mathlib.Omega.{arith}
use lib.IntN.{nat_abs}
use Rattle.position.proofs.Laws.{from_west_lem}
use Rattle.position.proofs.Signed.{same_number, cast-number}
use Rattle.position.proofs.angle.from_west.Goals as goal

pub returns : goal.returns
returns c =
    let x = c.args.longitude.0 in
    let known = from_west_lem x c.requires in
    rw (same_number x (omega arith)) (ap nat_abs (cast-number _ known.0 (omega (arith, known.1))))
