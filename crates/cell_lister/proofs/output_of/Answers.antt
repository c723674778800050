-- `output_of` meets its contract: the lines of what the reader answers. Assumes nothing.
use mathlib.Core.Path.{◌≡◌, ap, ◌∙◌}
use native.Mathlib.Omega.{arith}
use lib.ListN.{length}
use Rattle.std.proofs.Common.{rules}
use Rattle.text.proofs.Laws.{refusal_alone}
use Rattle.cell_lister.specs.CellLister.{listed}
use Rattle.cell_lister.proofs.output_of.Goals as goal

-- the slice has room for the line of a refused call
pub returns-in-Err : goal.returns-in-Err
returns-in-Err c =
    let long : length c.args.out.now ≡ 86064 = search rules in
    let l = refusal_alone c.args.out.now _ _ _ (omega arith) (rw c.number.ensures at c.append_refusal.ensures) in
    record { fits = l.0; text = l.1 ∙ ap listed c.in-Err.ensures }
