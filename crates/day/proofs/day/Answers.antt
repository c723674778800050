-- The slices of a chart of the level, and the new temperatures, are as long as one another.
use Rattle.std.proofs.Common.{arith}
use Rattle.mask.proofs.Laws.{mask_small}
use Rattle.chart.proofs.Answers.{is_chart_lem}
use Rattle.day.proofs.day.Goals as goal

pub rewrite-requires : goal.rewrite-requires
rewrite-requires c =
    let a = c.args in
    let r = is_chart_lem a.level a.temperatures.now a.ages.now c.in_ok-is_chart.ensures in
    omega (arith, r.warmth, r.aged, mask_small a.level r.level)
