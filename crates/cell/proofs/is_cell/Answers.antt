-- `is_cell` meets its contract: what is left of the number without the level's digits is an octant. Assumes nothing.
use mathlib.Core.Path.{sym}
use native.Mathlib.Omega.{arith}
use borrow.Author.Tests.{lt-ltb}
use Rattle.cell.proofs.Laws.{level_test, below_higher_level}
use Rattle.cell.proofs.is_cell.Goals as goal

pub returns-then-level-gt-MAX_LEVEL : goal.returns-then-level-gt-MAX_LEVEL
returns-then-level-gt-MAX_LEVEL c =
    let a = c.args in
    sym (lt-ltb _ _ (below_higher_level a.level a.cell (omega arith) (omega arith)))

pub returns : goal.returns
returns c = let a = c.args in level_test a.level a.cell
