-- `gather` meets its contract: the site is that of the cell, and the slice has room for all ways. Assumes nothing.
use mathlib.Core.Path.{sym, ◌∙◌}
use mathlib.Core.List.{[]}
use Rattle.refusal.proofs.Answers.{same_refusal}
use Rattle.cell.specs.Cell.{place_of, cell_tests}
use Rattle.cell.proofs.Answers.{given_site}
use Rattle.cubes.proofs.Gathering.{gather-is, gather_other_length, gather_refused}
use Rattle.cubes.proofs.gather.Goals as goal

pub returns-in_default : goal.returns-in_default
returns-in_default c =
    let a = c.args in
    sym (gather_refused _ _ _ _ (same_refusal (cell_tests a.level a.cell) [] _ _ _ c.in_default.ensures))

pub returns-then-found-ne12 : goal.returns-then-found-ne12
returns-then-found-ne12 c = sym (gather_other_length _ _ _ c.if-found-ne12.true)

pub returns : goal.returns
returns c =
    let a = c.args in
    let k = c.in-Ok.site.level.k in
    let g = given_site a.level a.cell k (place_of c.in-Ok.site.place) c.in-Ok.ensures in
    c.gather_ways.ensures ∙ rw (← g.0, ← g.1.at) (sym (gather-is a.level a.cell a.found.now g.1.level g.1.below c.if-found-ne12.false))
