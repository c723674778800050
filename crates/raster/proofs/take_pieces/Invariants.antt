use Prim.Native.Nat.{ℕ, ◌^◌}
use mathlib.Core.Path.{◌≡◌}
use lib.ListN.{length}
use Rattle.bitset.specs.Bits.{Bytes, marked}
use Rattle.raster.specs.Raster.{cell_lit}
use Rattle.raster.specs.inside.Pieces.{piece_size, earlier}
use Rattle.raster.proofs.take_pieces.Given as goal

abbrev pub invariant-loop-n : goal.invariant-loop-n
invariant-loop-n l =
    (length l.bytes ≡ 4 ^ l.fn.mask.level.k)
    × Bytes l.bytes
    × ((x : ℕ) → marked l.bytes x ≡ earlier (piece_size l.fn.mask.level.k) l.n (cell_lit l.fn.mask.level.k l.rows.up l.rows.down) x)
