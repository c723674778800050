use Rattle.stencil.proofs.Loops.{Written}
use Rattle.rows.specs.Rows.{lit, first_word}
use Rattle.stencil.specs.Stencil.{up_of, down_of}
use Rattle.stencil.proofs.cells_of.Given as goal

abbrev pub invariant-loop-w : goal.invariant-loop-w
invariant-loop-w l =
    (Written first_word l.w (up_of (lit l.points)) l.initial.cells.up l.cells.up)
    × (Written first_word l.w (down_of (lit l.points)) l.initial.cells.down l.cells.down)
