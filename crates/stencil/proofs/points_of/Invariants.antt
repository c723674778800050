use Rattle.stencil.proofs.Loops.{Written}
use Rattle.rows.specs.Rows.{lit, first_word}
use Rattle.stencil.specs.Stencil.{points_of}
use Rattle.stencil.proofs.points_of.Given as goal

abbrev pub invariant-loop-w : goal.invariant-loop-w
invariant-loop-w l = Written first_word l.w (points_of (lit l.cells.up) (lit l.cells.down)) l.initial.points l.points
