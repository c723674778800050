-- One cell more is as the day leaves it, and past the last one all are.
use Prim.Native.Nat.{ℕ}
use mathlib.Core.Path.{◌≡◌, refl, sym, ap, subst, ◌∙◌}
use native.Mathlib.Omega.{arith}
use lib.Ieee as Ieee
use lib.Ieee.{Float}
use lib.ListN.{length}
use Rattle.chart.specs.Chart.{in_range, reading_of}
use Rattle.day.specs.Day.{day_at, temperatures_after, ages_after, Summary, summary_of, summary_after, summary_is}
use Rattle.day.proofs.Days.{Rewritten, none_rewritten, cell_rewritten, all_rewritten, same_cell, count_le}
use Rattle.day.proofs.DayLaws.{fresh_inside}
use Rattle.day.proofs.rewrite.Goals as goal
use Rattle.day.proofs.rewrite.Goals.{After-cell_after-temperature, After-loop-i}

pub loop-i-init : goal.loop-i-init
unfolding Ieee.of_bits
loop-i-init c =
    let a = c.args in
    none_rewritten (day_at a.limit a.new.now a.clouds.now a.temperatures.now a.ages.now) a.temperatures.now a.ages.now _ refl

-- the cell is as the day leaves it
cell-left : (c : After-cell_after-temperature) → let a = c.args in c.cell_after-temperature.result ≡ day_at a.limit a.new.now a.clouds.now a.temperatures.now a.ages.now c.loop-i.i
cell-left c =
    let i = c.loop-i.i in
    let r = c.loop-i.invariant in
    c.cell_after-temperature.ensures ∙ same_cell _ _ _ _ _ _ _ _ c.is_marked-covered.ensures (r.warmth_rest i (omega arith)) (r.age_rest i (omega arith))

pub with_cell-summary-requires : goal.with_cell-summary-requires
with_cell-summary-requires c =
    let l = c.loop-i in
    let a = c.args in
    let f = day_at a.limit a.new.now a.clouds.now a.temperatures.now a.ages.now in
    let e = cell-left c in
    let n : l.summary.count ≡ (summary_of l.i (λ i. reading_of (f i).0 (f i).1)).count = ap (λ (s : Summary). s.count) l.invariant.summed in (
      omega (arith, n, count_le l.i (λ i. reading_of (f i).0 (f i).1)),
      λ z. ap (λ (p : Float × ℕ). in_range p.0) e ∙ fresh_inside _ _ _ _ _ (sym (ap (λ (p : Float × ℕ). p.1) e) ∙ z),
    )

pub loop-i-preserved : goal.loop-i-preserved
loop-i-preserved c =
    let l = c.loop-i in
    cell_rewritten _ _ _ _ _ _ l.i _ _ _ (omega arith) (omega arith) l.invariant (cell-left (goal.at.loop-i-preserved c).After-cell_after-temperature) c.with_cell-summary.ensures

-- past the last cell the slices and the summary are those of the day
passed : (c : After-loop-i) →
    let a = c.args in
    let l = c.loop-i in
    let n = length {A = Float} a.temperatures.now in
    (l.temperatures ≡ temperatures_after n a.limit a.new.now a.clouds.now a.temperatures.now a.ages.now)
    × (l.ages ≡ ages_after n a.limit a.new.now a.clouds.now a.temperatures.now a.ages.now)
    × (summary_is l.summary ≡ summary_after n a.limit a.new.now a.clouds.now a.temperatures.now a.ages.now)
unfolding temperatures_after ages_after summary_after
passed c =
    let l = c.loop-i in
    let a = c.args in
    let f = day_at a.limit a.new.now a.clouds.now a.temperatures.now a.ages.now in
    let n = length {A = Float} a.temperatures.now in
    let e : l.i ≡ n = omega arith in
    let r = subst (Rewritten f a.temperatures.now a.ages.now l.temperatures l.ages (summary_is l.summary)) e l.invariant in
    all_rewritten f a.temperatures.now a.ages.now l.temperatures l.ages (summary_is l.summary) n (omega arith) (omega arith) r

pub returns-clause-temperatures : goal.returns-clause-temperatures
returns-clause-temperatures c = (passed (goal.at.returns-clause-temperatures c).After-loop-i).0

pub returns-clause-ages : goal.returns-clause-ages
returns-clause-ages c = (passed (goal.at.returns-clause-ages c).After-loop-i).1

pub returns-clause-summary : goal.returns-clause-summary
returns-clause-summary c = (passed (goal.at.returns-clause-summary c).After-loop-i).2
