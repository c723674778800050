-- `any_past` meets its contract. Assumes nothing.
use mathlib.Core.Bool.{◌||◌}
use Rattle.std.proofs.Common.{refl, ◌∙◌, leb, rules, tests}
use Rattle.std.specs.List.{list_any}
use Rattle.std.proofs.lemmas.Iterator.{YieldsList-from_slice}
use Rattle.std.proofs.lemmas.Iterator.Search.{any_from_yields_List}
use Rattle.std.proofs.lemmas.List.Recursion.{same_from_clauses}
use Rattle.cell.specs.Cell.{cells}
use Rattle.border.specs.Border.{any_from}
use Rattle.border_writer.proofs.parts.any_past.Goals as goal

pub returns : goal.returns
unfolding any_from
returns c =
    let bound = cells c.args.level.k in
    let xs = c.args.cells.now in
    any_from_yields_List (leb bound) _ _ _ c.any.ensures.ran (YieldsList-from_slice xs cc) (λ x b q h. search (rules, tests))
    ∙ same_from_clauses (list_any (leb bound)) (any_from bound) (λ x b. leb bound x || b) refl (λ _ _. refl) (λ _ _. refl) xs
