-- `is_inner` meets its contract, test by test. Assumes nothing.
use Rattle.std.proofs.lemmas.Grind.{common_steps}
use native.Mathlib.Omega.{arith}
use Rattle.cell.proofs.Laws.{shifted}
use Rattle.touch.proofs.Twelve.{inner_is}
use Rattle.touch.proofs.inner.is_inner.Goals as goal

pub returns-then-place-gt0-2 : goal.returns-then-place-gt0-2
returns-then-place-gt0-2 c =
    let p = c.args.site.place in
    rw (shifted 32 c.args.site.level.k (omega (arith, c.args.site.level.bounded)), inner_is c.args.site.level.k p.kind p.row p.col) (grind (arith, common_steps))
