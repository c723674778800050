-- `find_code` meets its contract. The invariant: no code below `number` leads to the cell. Each of these numbers is read as its code. A code that
-- leads there is the one, since no other does (code-leads). Assumes nothing.
use mathlib.Core.Path.{sym, ◌∙◌}
use native.Mathlib.Omega.{arith}
use Rattle.cell.specs.Cell.{place_of, number}
use Rattle.code.proofs.Laws.{code_leads, no_code}
use Rattle.step.proofs.Body.{read_code}
use Rattle.step.proofs.find_code.Goals as goal

pub returns-then-joins : goal.returns-then-joins
returns-then-joins c =
    let from = c.args.from in
    let n = number from.level.k (place_of c.args.to.place) in
    let d = c.loop-number.number in
    let e = read_code c.in_ok-try_from.field-0 d c.in_ok-try_from.ensures in
    simp ((code_leads from.level.k n (place_of from.place) d from.occurs).1 (rw e (sym c.joins.ensures ∙ c.if-joins.true)))

pub returns : goal.returns
returns c =
    let from = c.args.from in
    let n = number from.level.k (place_of c.args.to.place) in
    simp (no_code from.level.k n (place_of from.place) from.occurs (λ d h. c.loop-number.invariant d (omega arith)))
