-- The ways along one axis, by the numbers that `moved` and `taken` have for them.
use Rattle.std.specs.Prelude.{ℕ}
use Rattle.cubes.specs.declared.way.Way.{Way}
use Rattle.cubes.specs.declared.way.Way.TheVariants as way

abbrev pub number_of : Way → ℕ
number_of way.Inward = 0
number_of way.Still = 1
number_of way.Outward = 2
