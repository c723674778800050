-- A cell passed is not lacking, since its bit is clear in a or set in b; the first that is neither is the lowest.
use Rattle.std.proofs.Common.{◌≡◌, ◌*◌, ◌+◌, ◌<◌, length, false, arith, below_more}
use Rattle.bitset.specs.Bits.{marked}
use Rattle.mask.specs.Mask.{difference}
use Rattle.mask.proofs.Laws.{lowest_none, lowest_at, lacking, unmarked, marked_too}
use Rattle.mask.proofs.first_lacking.Goals as goal
use Rattle.mask.proofs.first_lacking.Goals.{else-a-i-eq1-via-then-a-i-eq1+else-b-i-eq0, else-a-i-eq1-via-else-a-i-eq1}

pub loop-j-preserved : goal.loop-j-preserved
loop-j-preserved c =
    let l = c.loop-j in
    let x = c.args.a.now in
    let y = c.args.b.now in
    let i = c.bytes.i in
    let h : l.j < 8 = omega arith in
    let at : difference (marked x) (marked y) (8 * i + l.j) ≡ false = elim c.else-a-i-eq1.branch [
      | else-a-i-eq1-via-then-a-i-eq1+else-b-i-eq0 w ↦ marked_too x y i l.j h w.if-b-i-eq0.false
      | else-a-i-eq1-via-else-a-i-eq1 w ↦ unmarked x y i l.j h w.if-a-i-eq1.false
    ] in
    (l.invariant.0, λ d u. below_more _ _ l.invariant.1 at d (omega arith))

pub returns-then-b-i-eq0 : goal.returns-then-b-i-eq0
returns-then-b-i-eq0 c =
    let l = c.loop-j in
    let x = c.args.a.now in
    let y = c.args.b.now in
    let i = c.bytes.i in
    let at = lacking x y i l.j (omega arith) c.if-a-i-eq1.true c.if-b-i-eq0.true in
    rw (lowest_at (difference (marked x) (marked y)) (8 * length x) 0 (8 * i + l.j) (omega arith) (omega arith) l.invariant.1 at)

pub returns-after-bytes : goal.returns-after-bytes
returns-after-bytes c =
    let l = c.bytes in
    rw (l.invariant.0, lowest_none (difference (marked c.args.a.now) (marked c.args.b.now)) (8 * length c.args.a.now) 0 (λ d h. l.invariant.1 d (omega arith)))
