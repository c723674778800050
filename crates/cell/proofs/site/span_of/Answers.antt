-- `span_of` meets its contract, by the cell's kind; the sum of two numbers of 32 bits fits 64. Assumes nothing.
use Rattle.cell.specs.Cell.{span}
use Rattle.cell.proofs.site.span_of.Goals as goal

pub returns-in-Up : goal.returns-in-Up
unfolding span
returns-in-Up c = simp c.in-Up.is

pub returns-in-Down : goal.returns-in-Down
unfolding span
returns-in-Down c = simp c.in-Down.is
