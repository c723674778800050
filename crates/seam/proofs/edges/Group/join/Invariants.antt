use mathlib.Core.Path.{◌≡◌}
use Rattle.rows.specs.Rows.{lit}
use Rattle.seam.specs.inside.Pairs.{join_pairs, first_of, second_of}
use Rattle.seam.proofs.edges.Group.join.Given as goal

abbrev pub invariant-loop-pair : goal.invariant-loop-pair
invariant-loop-pair l = lit l.points ≡ join_pairs (first_of l.self.edge l.self.size) (second_of l.self.edge l.self.size) l.pair (lit l.initial.points)
