-- `joins` meets its contract: the place that the step leads to occurs, so that it is compared as its number would be.
-- Assumes nothing.
use mathlib.Core.Path.{sym, ap, ◌∙◌}
use Rattle.cell.specs.Cell.{number, place_of}
use Rattle.code.specs.Step.{leads_to}
use Rattle.code.proofs.Laws.{step_occurs}
use Rattle.step.specs.inside.Code.{code_of}
use Rattle.step.proofs.Body.{same_leads}
use Rattle.step.proofs.joins.Goals as goal

pub returns-in-Some : goal.returns-in-Some
returns-in-Some c =
    let a = c.args in
    let k = a.from.level.k in
    let e = rw c.in-Some.is at c.target_of.ensures in
    c.eq.ensures
    ∙ same_leads k c.in-Some.target a.to.place (step_occurs k (place_of a.from.place) (code_of a.code) _ a.from.occurs (sym e)) (rw c.requires at a.to.occurs)
    ∙ ap (leads_to k (number k (place_of a.to.place))) e

pub returns-in-None : goal.returns-in-None
returns-in-None c = simp (← c.target_of.ensures, c.in-None.is)
