-- `have_common` meets its contract: `any` and `contains` try each corner of the one with each of the other. Assumes nothing.
use Rattle.std.proofs.Common.{◌∙◌, rules, tests}
use Rattle.std.proofs.lemmas.Iterator.{YieldsList-from_slice}
use Rattle.std.proofs.lemmas.Iterator.Search.{any_from_yields_List}
use Rattle.std.specs.List.{list_any}
use Rattle.std.specs.Ordering.{int_eq}
use Rattle.std.specs.Cmp.Lexicographic.{pointwise}
use Rattle.corner.proofs.Common.{equal_common}
use Rattle.corner.proofs.have_common.Goals as goal

pub returns : goal.returns
returns c =
    let ps = c.args.ps.now in
    let qs = c.args.qs.now in
    any_from_yields_List (λ p. list_any (λ q. pointwise int_eq q p) qs) _ _ _ c.any.ensures.ran (YieldsList-from_slice ps cc) (λ x b q k. search (rules, tests))
    ∙ equal_common ps qs c.told-ps c.told-qs c.requires.0 c.requires.1
