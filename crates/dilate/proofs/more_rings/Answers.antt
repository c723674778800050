-- `more_rings` meets its contract. The invariant: the points have grown by twice as many rings as pairs are done; the other array is clear past the rows.
-- Assumes nothing.
use Prim.Native.Nat.{ℕ, ◌+◌}
use mathlib.Core.Path.{◌≡◌}
use mathlib.Core.Bool.{Bool}
use native.Mathlib.Omega.{arith}
use Rattle.rows.specs.Rows.{lit}
use Rattle.spread.specs.Spread.{Points}
use Rattle.dilate.specs.Dilate.{grown_cells}
use Rattle.dilate.proofs.Rings.{after, no_more, as_many}
use Rattle.dilate.proofs.more_rings.Goals as goal

pub loop-pair-init : goal.loop-pair-init
loop-pair-init c = (λ A p. no_more c.args.level.k A _ p, c.requires.0, c.requires.1)

pub loop-pair-preserved : goal.loop-pair-preserved
loop-pair-preserved c =
    let k = c.args.level.k in
    let n = c.loop-pair._pair + c.loop-pair._pair in
    let two : (A : ℕ → Bool) → Points k (lit c.args.points.now) A → Points k (lit c.ring-in-loop-pair.new.next) (grown_cells k (1 + (1 + n)) A) =
    λ A p.
    let one = after k 1 n A _ (c.ring.ensures.spreads (grown_cells k n A) (c.loop-pair.invariant.0 A p)) in
    after k 1 (1 + n) A _ (c.ring-in-loop-pair.ensures.spreads (grown_cells k (1 + n) A) one) in
    (λ A p. as_many k (1 + (1 + n)) _ A _ (omega arith) (two A p), c.ring-in-loop-pair.ensures.clear, c.ring.ensures.clear)

pub returns-then-rings-eq1 : goal.returns-then-rings-eq1
returns-then-rings-eq1 c A p =
    let k = c.args.level.k in
    let n = c.loop-pair._pair + c.loop-pair._pair in
    let e : 1 + n ≡ c.args.rings = omega (arith, c.if-rings-eq1.true) in
    as_many k (1 + n) _ A _ e (after k 1 n A _ (c.ring-then-rings-eq1.ensures.spreads (grown_cells k n A) (c.loop-pair.invariant.0 A p)))
