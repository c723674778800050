-- `step_along` meets its contract: a refused place is refused by the same number, and the place of a cell occurs, as does the place that a step
-- leads to.
-- Assumes nothing.
use mathlib.Core.Option.{some}
use mathlib.Core.Path.{◌≡◌, sym, ap, ◌∙◌}
use native.Mathlib.Omega.{arith}
use Rattle.std.proofs.Common.{Some}
use Rattle.std.proofs.lemmas.Result.{err_from_is_err_and}
use Rattle.cell.specs.Cell.{place_of}
use Rattle.cell.proofs.Answers.{Given, given_site, given_number}
use Rattle.code.specs.Step.{step}
use Rattle.code.proofs.Laws.{step_occurs}
use Rattle.code.proofs.Calls.{given_step}
use Rattle.step.specs.inside.Target.{target_of}
use Rattle.step.proofs.Body.{read_code, no_code_read}
use Rattle.step.proofs.step_along.Goals as goal
use Rattle.step.proofs.step_along.Goals.{In_ok-from}

-- where the site was given, it is the cell's
known : (c : In_ok-from) → (c.args.level ≡ c.in_ok-from.from.level.k) × Given c.args.level c.args.cell (place_of c.in_ok-from.from.place)
known c = given_site _ _ _ _ c.in_ok-from.ensures

pub returns-in_err-code : goal.returns-in_err-code
returns-in_err-code c =
    let a = c.args in
    let p = err_from_is_err_and c.from_residual-in_err-code.result c.from_residual-in_err-code.ensures.1 in
    rw (p.1, p.2) (no_code_read a.level a.cell a.code _ _ (known (goal.at.returns-in_err-code c).In_ok-from).1 c.in_err-code.ensures)

pub returns : goal.returns
returns c =
    let a = c.args in
    let from = c.in_ok-from.from in
    let w = known (goal.at.returns c).In_ok-from in
    let g = w.1 in
    let q = place_of c.in_ok-target.target in
    let n = read_code c.in_ok-code.code a.code c.in_ok-code.ensures in
    let f : c.target_of.result ≡ Some c.in_ok-target.target = grind arith in
    let e : step a.level (place_of from.place) a.code ≡ some q = rw (n, w.0) (sym c.target_of.ensures ∙ ap target_of f) in
    c.number_of.ensures
    ∙ given_number a.level q g.level (step_occurs a.level _ a.code q g.occurs e)
    ∙ given_step a.level a.cell a.code _ (some q) g e
