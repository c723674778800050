-- `holder_of` meets its contract: row and column are the whole parts of T and R, and the test is the definition's own.
-- Assumes nothing.
use Prim.Native.Nat.{◌+◌, ◌*◌, ◌-◌, ◌%◌}
use native.Mathlib.Omega.{arith}
use borrow.Author.Tests.{lt-ltb, le-ltb}
use Rattle.position.specs.Position.{q}
use Rattle.position.proofs.Laws.{holder-at}
use Rattle.position.proofs.place.holder_of.Goals as goal
use Rattle.position.proofs.place.holder_of.Goals.{After-rows_of-n}

pub returns-then-high-r-lt-SQUARE : goal.returns-then-high-r-lt-SQUARE
returns-then-high-r-lt-SQUARE c =
    let a = c.args.at in
    let n = c.rows_of-n in
    let whole = rw (← n.ensures.0) at c.share_of-r.ensures.whole in
    let left = rw (← n.ensures.0) at c.share_of-r.ensures.rest in
    let rest = n.result * a.p % q * q + n.result * (a.m * (q - a.p)) % (q * q) in
    rw (holder-at c.args.level.k a.p a.m n.result n.ensures.0, whole, lt-ltb rest (q * q) (omega (arith, c.if-high-r-lt-SQUARE.true, left)))

pub returns-else-high-r-lt-SQUARE : goal.returns-else-high-r-lt-SQUARE
returns-else-high-r-lt-SQUARE c =
    let a = c.args.at in
    let n = c.rows_of-n in
    let whole = rw (← n.ensures.0) at c.share_of-r.ensures.whole in
    let left = rw (← n.ensures.0) at c.share_of-r.ensures.rest in
    let rest = n.result * a.p % q * q + n.result * (a.m * (q - a.p)) % (q * q) in
    rw (holder-at c.args.level.k a.p a.m n.result n.ensures.0, whole, le-ltb rest (q * q) (omega (arith, c.if-high-r-lt-SQUARE.false, left)))
