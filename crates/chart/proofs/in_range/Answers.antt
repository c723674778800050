-- `in_range` meets its contract: the range's bounds are those of the definition. Assumes nothing.
use mathlib.Core.Path.{ap₂, ◌∙◌}
use mathlib.Core.Bool.{Bool, ◌&&◌}
use lib.Ieee as Ieee
use Rattle.chart.specs.Chart.{in_range, lowest, highest}
use Rattle.chart.proofs.Laws.{compared}
use Rattle.chart.proofs.in_range.Goals as goal

pub returns : goal.returns
unfolding in_range Ieee.of_bits
returns c =
    (rw (c.new.ensures.start, c.new.ensures.end, c.new.ensures.exhausted) at c.contains.ensures.value)
    ∙ ap₂ (λ (a b : Bool). a && b) (compared lowest c.args.temperature) (compared c.args.temperature highest)
