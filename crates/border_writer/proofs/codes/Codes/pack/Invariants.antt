-- The bytes before the place are put.
use mathlib.Core.Path.{◌≡◌}
use lib.ListN.{take}
use Rattle.border.specs.Stored.{packed}
use Rattle.border_writer.proofs.codes.Codes.pack.Given as goal

abbrev pub invariant-loop-i : goal.invariant-loop-i
invariant-loop-i l = take l.i l.out ≡ take l.i (packed l.self.each.now)
