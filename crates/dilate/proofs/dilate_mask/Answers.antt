-- `dilate_mask` meets its contract: the start, the rings but one, and the last ring with the end. Assumes nothing.
use Prim.Native.Nat.{ℕ, ◌+◌, ◌-◌, ◌^◌}
use mathlib.Core.Path.{◌≡◌, ap, ◌∙◌}
use native.Mathlib.Omega.{arith}
use lib.ListN.{replicate}
use Rattle.bitset.specs.Bits.{marked, bytes_of}
use Rattle.rows.specs.Rows.{lit, word_count}
use Rattle.rows.proofs.Words.{lit_zeros}
use Rattle.spread.specs.Spread.{Points}
use Rattle.spread.proofs.Cells.{past_rows}
use Rattle.dilate.specs.Dilate.{grown_cells}
use Rattle.dilate.proofs.Rings.{start, cells_clear, finish, none}
use Rattle.dilate.proofs.dilate_mask.Goals as goal
use Rattle.dilate.proofs.dilate_mask.Goals.{After-join_seams}

pub returns-then-rings-eq0 : goal.returns-then-rings-eq0
returns-then-rings-eq0 c =
    rw c.if-rings-eq0.true (none c.args.mask.level.k c.args.mask.level.bounded c.args.mask.bytes.now c.args.mask.whole c.args.mask.fits)

-- the points of the cells marked
first : (c : After-join_seams) → let a = c.args in Points a.mask.level.k (lit c.join_seams.new.points) (marked a.mask.bytes.now)
first c =
    let a = c.args in
    let zeros = lit (replicate word_count 0) in
    start a.mask.level.k a.mask.level.bounded a.mask.bytes.now c.args.mask.whole zeros _ zeros _ zeros _ _
    c.to_rows.ensures.ups c.to_rows.ensures.downs c.points_of.ensures c.join_seams.ensures (lit_zeros word_count)

pub more_rings-requires : goal.more_rings-requires
more_rings-requires c =
    let k = c.args.mask.level.k in
    (past_rows k _ c.args.mask.level.bounded (first (goal.at.more_rings-requires c).After-join_seams).only, cells_clear k c.args.mask.level.bounded c.args.mask.bytes.now c.args.mask.whole _ _ c.to_rows.ensures.downs)

pub returns : goal.returns
returns c =
    let a = c.args in
    let A = marked a.mask.bytes.now in
    let e : 1 + (a.rings - 1) ≡ a.rings = omega (arith, c.if-rings-eq0.false) in
    let spread = c.more_rings.ensures A (first (goal.at.returns c).After-join_seams) in
    finish a.mask.level.k c.args.mask.level.bounded a.mask.bytes.now c.args.mask.whole A _ (a.rings - 1) _ _ _ _ _ spread c.cells_of.ensures.ups c.cells_of.ensures.downs c.from_rows.ensures
    ∙ ap (λ (n : ℕ). bytes_of (4 ^ a.mask.level.k) (grown_cells a.mask.level.k n A)) e
