-- `block_at` meets its contract: the squares of both kinds are read, and the block's cells gathered from them. Assumes nothing.
use Prim.Native.Nat.{ℕ, ◌+◌, ◌*◌, ◌<◌}
use mathlib.Core.Path.{◌≡◌, refl, sym, ◌∙◌}
use Rattle.bitset.specs.Bits.{bit}
use Rattle.bitset.proofs.Laws.{bit_zero}
use Rattle.cell.specs.declared.Kind.{Kind}
use Rattle.cell.specs.declared.Kind.TheVariants.{Up, Down}
use Rattle.raster.specs.Raster.{cell_lit}
use Rattle.square.specs.Square.{quarter_of, squares, seat_bit}
use Rattle.square.proofs.Places.{gathered_up, gathered_down}
use Rattle.raster.proofs.Placed.{square_of, both_empty, kind_cases}
use Rattle.raster.proofs.Located.{block_read}
use Rattle.raster.proofs.blocks.block_at.Goals as goal
use Rattle.raster.proofs.blocks.block_at.Goals.{After-square_at-downs}

-- cell j's seat in squares of which those of the two kinds were read
read : (v : After-square_at-downs) (t : Kind) → v.locate.result.0.kind ≡ t →
    let a = v.args in
    (sq : Kind → Kind → ℕ) → ((s : Kind) (p : ℕ) → p < 64 → bit (sq t s) (quarter_of p) ≡ bit (square_of v.square_at-ups.result v.square_at-downs.result s) p) →
    (j : ℕ) → j < 64 → seat_bit sq t j ≡ cell_lit a.block.level.k a.rows.now.up a.rows.now.down (64 * a.block.number + j)
read v t e =
    let a = v.args in
    block_read a.block.level.k a.block.number v.locate.result.0 a.block.level.bounded a.block.deep a.block.below v.locate.ensures.place t e v.locate.ensures.slot
    a.rows.now.up a.rows.now.down v.square_at-ups.result v.square_at-downs.result v.square_at-ups.ensures v.square_at-downs.ensures

pub returns-then-is_empty : goal.returns-then-is_empty
unfolding seat_bit
returns-then-is_empty c j h =
    let p = c.locate.result.0 in
    let none = both_empty c.square_at-ups.result c.square_at-downs.result c.if-is_empty.true in
    bit_zero j ∙ sym (bit_zero _) ∙ read (goal.at.returns-then-is_empty c).After-square_at-downs p.kind refl (λ t s. 0) none j h

pub returns-in-Up : goal.returns-in-Up
unfolding squares
returns-in-Up c j h =
    c.gather.ensures j h ∙ gathered_up c.in_quarters-u.result c.in_quarters-d.result j
    ∙ read (goal.at.returns-in-Up c).After-square_at-downs Up c.in-Up.is (squares c.in_quarters-u.result c.in_quarters-d.result 0 0)
    (kind_cases _ c.in_quarters-u.ensures c.in_quarters-d.ensures) j h

pub returns-in-Down : goal.returns-in-Down
unfolding squares
returns-in-Down c j h =
    c.gather-in-Down.ensures j h ∙ gathered_down c.in_quarters-u.result c.in_quarters-d.result j
    ∙ read (goal.at.returns-in-Down c).After-square_at-downs Down c.in-Down.is (squares 0 0 c.in_quarters-u.result c.in_quarters-d.result)
    (kind_cases _ c.in_quarters-u.ensures c.in_quarters-d.ensures) j h
