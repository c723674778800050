-- The cell's byte gets the cell's bit, and past the end there is nothing to mark.
use Prim.Native.Nat.{◌%◌}
use mathlib.Core.Path.{sym}
use native.Mathlib.Omega.{arith}
use Rattle.bitset.proofs.Laws.{marking_past, marking_or, shifted}
use Rattle.bitset.proofs.mark.Goals as goal

pub returns-then-at-mask : goal.returns-then-at-mask
returns-then-at-mask c =
    let a = c.args in
    rw (shifted 8 (a.cell % 8) (omega arith)) (marking_or a.mask.now a.cell)

pub returns-else-at-mask : goal.returns-else-at-mask
returns-else-at-mask c = let a = c.args in sym (marking_past a.mask.now a.cell (omega arith))
