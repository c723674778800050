use Rattle.stencil.proofs.Loops.{Written}
use Rattle.rows.specs.Rows.{inside}
use Rattle.stencil.proofs.mark_inside.Given as goal

abbrev pub invariant-loop-w : goal.invariant-loop-w
invariant-loop-w l = Written 0 l.w (inside l.level) l.initial.out l.out
