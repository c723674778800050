-- `code_between` meets its contract: both cells are of the level. Assumes nothing.
use mathlib.Core.Path.{◌≡◌, refl, ◌∙◌}
use Rattle.cell.specs.Cell.{place_of}
use Rattle.cell.proofs.Answers.{Given, given_site}
use Rattle.code.proofs.Calls.{given_code}
use Rattle.step.proofs.code_between.Goals as goal
use Rattle.step.proofs.code_between.Goals.{In_ok-at-2}

-- where both sites were given, they are those of the cells
known : (c : In_ok-at-2) →
    let a = c.args in
    let from = c.in_ok-at.field-0 in
    let to = c.in_ok-at-2.field-0 in
    ((a.level ≡ from.level.k) × Given a.level a.from (place_of from.place)) × ((a.level ≡ to.level.k) × Given a.level a.to (place_of to.place))
known c = (given_site _ _ _ _ c.in_ok-at.ensures, given_site _ _ _ _ c.in_ok-at-2.ensures)

pub returns : goal.returns
returns c =
    let a = c.args in
    let g = known (goal.at.returns c).In_ok-at-2 in
    c.find_code.ensures ∙ rw (← g.0.0) (given_code a.level a.from a.to _ _ _ g.0.1 g.1.1 refl)
