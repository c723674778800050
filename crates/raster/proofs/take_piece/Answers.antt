-- `take_piece` meets its contract: by its cell below level 3, and by its word in a block. Assumes nothing.
use Prim.Native.Nat.{ℕ, ◌/◌}
use mathlib.Core.Path.{◌≡◌, sym, ap, ◌∙◌}
use mathlib.Core.Bool.{Bool, false, ◌||◌}
use Rattle.bitset.specs.Bits.{marked}
use Rattle.raster.specs.Raster.{cell_lit}
use Rattle.raster.specs.inside.Pieces.{piece}
use Rattle.raster.proofs.Pieces.{small_size, block_size, of_blocks, word_stored}
use Rattle.raster.proofs.take_piece.Goals as goal
use Rattle.raster.proofs.take_piece.Goals.{then-level-lt3, else-level-lt3}

pub returns : goal.returns
returns c x =
    let a = c.args in
    let k = a.mask.level.k in
    let old = a.mask.bytes.now in
    let A = cell_lit k a.rows.now.up a.rows.now.down in
    elim c.if-level-lt3.branch [
      | then-level-lt3 w ↦ ap (λ s. marked s x) w.bytes-is ∙ w.take_cell.ensures x ∙ ap (λ z. marked old x || piece z a.n A x) (sym (small_size k w.if-level-lt3.true))
      | else-level-lt3 w ↦
          let clear : (y : ℕ) → y / 64 ≡ a.n → marked old y ≡ false = λ y p. c.requires.by_index y (ap (λ (z : ℕ). y / z) (block_size k w.if-level-lt3.false) ∙ p) in
          ap (λ s. marked s x) w.bytes-is
          ∙ word_stored a.n w.block_at.result A old _ w.block_at.ensures clear w.store_word.ensures x
          ∙ ap (λ (b : Bool). marked old x || b) (of_blocks k a.n A x w.if-level-lt3.false)
    ]
