use mathlib.Core.Path.{◌≡◌}
use lib.ListN.{length}
use Rattle.adjacency.specs.Cube.{gathered}
use Rattle.cubes.proofs.gather_ways.Given as goal

abbrev pub invariant-loop-w : goal.invariant-loop-w
invariant-loop-w l = (length l.found ≡ length l.initial.found) × ((l.found, l.count) ≡ gathered l.level.k l.cube l.initial.found l.w)
