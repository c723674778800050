-- `put_piece` meets its contract for a block with marks: its marked cells are those of the word that was read. Assumes nothing.
use Prim.Native.Nat.{ℕ, ◌%◌}
use mathlib.Core.Path.{◌≡◌, ◌∙◌}
use Rattle.bitset.specs.Bits.{bit, marked}
use Rattle.cell.specs.declared.Kind.TheVariants.{Up, Down}
use Rattle.raster.specs.inside.Pieces.{piece_size, piece}
use Rattle.raster.proofs.Pieces.{of_blocks, added_same, word_cells}
use Rattle.raster.proofs.put_piece.Goals as goal

pub returns-then-has_marks : goal.returns-then-has_marks
returns-then-has_marks c =
    let a = c.args in
    let v = c.word_at-word.result in
    let A = marked a.mask.bytes.now in
    let p = c.put_block.ensures in
    let read : (x : ℕ) → piece 64 a.n (λ y. bit v (y % 64)) x ≡ piece (piece_size a.mask.level.k) a.n A x =
    λ x. word_cells a.n v A c.word_at-word.ensures x ∙ of_blocks a.mask.level.k a.n A x c.if-level-lt3.false in
    record { ups = added_same Up a.mask.level.k _ _ a.rows.now.up _ (λ x h. read x) p.ups; downs = added_same Down a.mask.level.k _ _ a.rows.now.down _ (λ x h. read x) p.downs }
