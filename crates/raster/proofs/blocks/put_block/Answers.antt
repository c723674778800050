-- `put_block` meets its contract: the squares of the word's cells are joined with the rows. Assumes nothing.
use Prim.Native.Nat.{ℕ, ◌%◌, ◌<◌}
use mathlib.Core.Path.{◌≡◌, ap, ◌∙◌}
use mathlib.Core.Bool.{Bool, ◌||◌}
use mathlib.Core.List.{List}
use Rattle.bitset.specs.Bits.{bit}
use Rattle.cell.specs.declared.Kind.{Kind}
use Rattle.cell.specs.declared.Kind.TheVariants.{Up, Down}
use Rattle.cell.specs.Cell.{triangle_of}
use Rattle.rows.specs.Rows.{lit}
use Rattle.raster.specs.inside.Pieces.{piece, Added}
use Rattle.square.specs.Square.{quarter_of, squares}
use Rattle.raster.specs.inside.Squares.{in_square}
use Rattle.raster.proofs.Located.{block_added}
use Rattle.raster.proofs.blocks.put_block.Goals as goal
use Rattle.raster.proofs.blocks.put_block.Goals.{in-Up, in-Down, After-scatter-squares}

-- a square of the word's cells, joined with the rows of its kind
joined : (w : After-scatter-squares) (t : Kind) → w.locate.result.0.kind ≡ t →
    let a = w.args in
    let x = w.scatter-squares.result in
    (s : Kind) (r : ℕ) → ((p : ℕ) → p < 64 → bit r p ≡ bit (squares x.up_in_up x.down_in_up x.up_in_down x.down_in_down t s) (quarter_of p)) →
    (q z : List ℕ) → ((i : ℕ) → lit z i ≡ (lit q i || in_square 8 w.locate.result.1.byte r i)) →
    Added (triangle_of s) a.block.level.k (piece 64 a.block.number (λ y. bit a.word (y % 64))) q z
joined w t e =
    let a = w.args in
    block_added a.block.level.k a.block.number w.locate.result.0 a.block.level.bounded a.block.deep a.block.below w.locate.ensures.place t e w.locate.ensures.slot
    a.word _ w.scatter-squares.ensures

pub returns : goal.returns
unfolding squares
returns c = record { ups = put.0; downs = put.1 }
  where
    A : ℕ → Bool
    A = piece 64 c.args.block.number (λ y. bit c.args.word (y % 64))

    Put : Type 0
    Put = Added (triangle_of Up) c.args.block.level.k A c.args.rows.now.up c.join_square.new.words × Added (triangle_of Down) c.args.block.level.k A c.args.rows.now.down c.join_square-2.new.words

    of_kind : (t : Kind) → c.locate.result.0.kind ≡ t →
        let x = c.scatter-squares.result in
        let sq = squares x.up_in_up x.down_in_up x.up_in_down x.down_in_down t in
        c.match-place.ups ≡ (sq Up, sq Down) → Put
    of_kind t e u =
        let join = joined (goal.at.returns c).After-scatter-squares t e in (
          join Up _ (λ p l. c.in_rows.ensures p l ∙ ap (λ (x : ℕ × ℕ). bit x.0 (quarter_of p)) u) _ _ c.join_square.ensures,
          join Down _ (λ p l. c.in_rows-2.ensures p l ∙ ap (λ (x : ℕ × ℕ). bit x.1 (quarter_of p)) u) _ _ c.join_square-2.ensures,
        )

    put : Put
    put = elim c.match-place.branch [ in-Up w ↦ of_kind Up w.in-Up.is w.ups-is | in-Down w ↦ of_kind Down w.in-Down.is w.ups-is ]
