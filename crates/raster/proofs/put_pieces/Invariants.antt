use Rattle.bitset.specs.Bits.{marked}
use Rattle.cell.specs.declared.Kind.TheVariants.{Up, Down}
use Rattle.cell.specs.Cell.{triangle_of}
use Rattle.raster.specs.inside.Pieces.{piece_size, earlier, Added}
use Rattle.raster.proofs.put_pieces.Given as goal

abbrev pub invariant-loop-n : goal.invariant-loop-n
invariant-loop-n l =
    Added (triangle_of Up) l.mask.level.k (earlier (piece_size l.mask.level.k) l.n (marked l.mask.bytes.now)) l.initial.rows.up l.rows.up
    × Added (triangle_of Down) l.mask.level.k (earlier (piece_size l.mask.level.k) l.n (marked l.mask.bytes.now)) l.initial.rows.down l.rows.down
