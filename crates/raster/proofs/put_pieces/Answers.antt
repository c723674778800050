-- `put_pieces` meets its contract. The invariant: the marked cells of the first `n` pieces are set besides. Assumes nothing.
use mathlib.Core.Path.{◌≡◌}
use native.Mathlib.Omega.{arith}
use Rattle.bitset.specs.Bits.{marked}
use Rattle.cell.specs.declared.Kind.TheVariants.{Up, Down}
use Rattle.raster.specs.inside.Pieces.{piece_size, piece_count, earlier}
use Rattle.raster.proofs.Pieces.{added_none, added_more, added_same, earlier_none, earlier_all}
use Rattle.raster.proofs.put_pieces.Goals as goal

pub loop-n-init : goal.loop-n-init
loop-n-init c =
    let a = c.args in
    let none = earlier_none (piece_size a.mask.level.k) (marked a.mask.bytes.now) in
    (added_none Up a.mask.level.k _ a.rows.now.up (λ x h. none x), added_none Down a.mask.level.k _ a.rows.now.down (λ x h. none x))

pub loop-n-preserved : goal.loop-n-preserved
loop-n-preserved c =
    let a = c.args in
    let l = c.loop-n in
    let m = marked a.mask.bytes.now in
    let p = c.put_piece.ensures in (
      added_more Up a.mask.level.k (piece_size a.mask.level.k) l.n m a.rows.now.up l.rows.up _ l.invariant.0 p.ups,
      added_more Down a.mask.level.k (piece_size a.mask.level.k) l.n m a.rows.now.down l.rows.down _ l.invariant.1 p.downs,
    )

pub returns : goal.returns
returns c =
    let a = c.args in
    let l = c.loop-n in
    let m = marked a.mask.bytes.now in
    let e : l.n ≡ piece_count a.mask.level.k = omega arith in
    record {
      ups = added_same Up a.mask.level.k (earlier (piece_size a.mask.level.k) l.n m) m a.rows.now.up l.rows.up (λ x h. earlier_all a.mask.level.k l.n m x e h) l.invariant.0;
      downs = added_same Down a.mask.level.k (earlier (piece_size a.mask.level.k) l.n m) m a.rows.now.down l.rows.down (λ x h. earlier_all a.mask.level.k l.n m x e h) l.invariant.1;
    }
