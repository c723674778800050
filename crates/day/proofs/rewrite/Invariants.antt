-- The cells passed are as the day leaves them, the others as they were, and the summary is that of the cells passed.
use Rattle.day.specs.Day.{day_at, summary_is}
use Rattle.day.proofs.Days.{Rewritten}
use Rattle.day.proofs.rewrite.Given as goal

abbrev pub invariant-loop-i : goal.invariant-loop-i
invariant-loop-i l =
    Rewritten (day_at l.limit l.new l.clouds l.initial.temperatures l.initial.ages) l.initial.temperatures l.initial.ages l.temperatures l.ages (summary_is l.summary) l.i
