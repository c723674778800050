use Rattle.stencil.proofs.Loops.{Written}
use mathlib.Core.Bool.{◌&&◌}
use Rattle.rows.specs.Rows.{lit, first_word}
use Rattle.stencil.specs.Stencil.{near_of}
use Rattle.stencil.proofs.near.Given as goal

abbrev pub invariant-loop-w : goal.invariant-loop-w
invariant-loop-w l = Written first_word l.w (λ i. lit l.within i && near_of (lit l.points) i) l.initial.out l.out
