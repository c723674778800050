use Prim.Native.Nat.{◌+◌, ◌*◌, ◌/◌, ◌%◌}
use Rattle.rows.specs.Rows.{lit}
use Rattle.raster.proofs.Joined.{Bits}
use Rattle.raster.proofs.words.square_at.Given as goal

abbrev pub invariant-loop-x : goal.invariant-loop-x
invariant-loop-x l = Bits l.x (λ p. lit l.words (8 * (l.slot.byte + 40 * (p / 8)) + p % 8)) l.square
