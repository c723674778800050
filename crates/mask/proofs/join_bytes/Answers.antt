-- The byte at hand is that of either mask, and those before it are done.
use Rattle.std.proofs.Common.{◌+◌, ◌*◌, length, arith}
use Rattle.bitset.specs.Bits.{marked, bits_of}
use Rattle.bitset.proofs.Laws.{bytes_are, fill_more}
use Rattle.mask.specs.Mask.{union}
use Rattle.mask.proofs.Laws.{either}
use Rattle.mask.proofs.join_bytes.Goals as goal

pub loop-i-preserved : goal.loop-i-preserved
loop-i-preserved c =
    let l = c.loop-i in
    let x = c.args.a.now in
    let y = c.args.b.now in
    fill_more (λ k. bits_of 8 (λ j. union (marked x) (marked y) (8 * k + j))) l.out l.i _ (omega arith) l.invariant (either x y l.i (omega arith) (omega arith))

pub returns : goal.returns
returns c =
    let l = c.loop-i in
    let a = c.args in
    bytes_are (length a.out.now) l.out (union (marked a.a.now) (marked a.b.now)) l.auto.out (λ k h. l.invariant k (omega arith))
