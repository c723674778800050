-- `take_pieces` meets its contract. The invariant: marked are the cells of the first `n` pieces whose spots are set. Assumes nothing.
use Prim.Native.Nat.{ℕ, ◌^◌}
use mathlib.Core.Path.{◌≡◌, sym, ap, ◌∙◌}
use mathlib.Core.List.{List}
use native.Mathlib.Omega.{arith}
use lib.ListN.{length}
use Rattle.bitset.specs.Bits.{marked}
use Rattle.bitset.proofs.Laws.{settled}
use Rattle.bitset.proofs.Outside.{marked_zeros}
use Rattle.raster.specs.Raster.{cell_lit}
use Rattle.raster.specs.inside.Pieces.{piece_size, piece_count}
use Rattle.raster.proofs.Pieces.{marked_more, earlier_none, earlier_not, earlier_all}
use Rattle.raster.proofs.take_pieces.Goals as goal

pub loop-n-init : goal.loop-n-init
loop-n-init c =
    let a = c.args in
    let k = c.clear in (
      k.auto.mask ∙ a.mask.whole,
      (λ i. (c.type_inv.bytes i).fits),
      (λ x. ap (λ (l : List ℕ). marked l x) k.ensures ∙ marked_zeros (length a.mask.bytes.now) x
          ∙ sym (earlier_none (piece_size a.mask.level.k) (cell_lit a.mask.level.k a.rows.now.up a.rows.now.down) x)),
    )

pub take_piece-requires : goal.take_piece-requires
take_piece-requires c =
    let a = c.args in
    let l = c.loop-n in
    record {
      in_mask = omega arith;
      by_index = λ x e. l.invariant.2 x ∙ earlier_not (piece_size a.mask.level.k) l.n (cell_lit a.mask.level.k a.rows.now.up a.rows.now.down) x e;
    }

pub loop-n-preserved : goal.loop-n-preserved
loop-n-preserved c =
    let a = c.args in
    let l = c.loop-n in
    let p = c.take_piece in (
      p.auto.mask.0 ∙ l.invariant.0,
      (λ i. (c.type_inv.bytes i).fits),
      marked_more (piece_size a.mask.level.k) l.n (cell_lit a.mask.level.k a.rows.now.up a.rows.now.down) l.bytes _ l.invariant.2 p.ensures,
    )

pub returns : goal.returns
returns c =
    let a = c.args in
    let l = c.loop-n in
    let A = cell_lit a.mask.level.k a.rows.now.up a.rows.now.down in
    let e : l.n ≡ piece_count a.mask.level.k = omega arith in
    settled (4 ^ a.mask.level.k) l.bytes A l.invariant.0 l.invariant.1 (λ x h. l.invariant.2 x ∙ earlier_all a.mask.level.k l.n A x e h)
