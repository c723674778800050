-- A byte is complemented, those before it are done, and those after it are as they were.
use Rattle.std.proofs.Common.{ℕ, ◌+◌, ◌*◌, ◌-◌, length, ap, ◌∙◌, arith}
use Rattle.bitset.specs.Bits.{marked, bits_of, outside}
use Rattle.bitset.proofs.Laws.{bytes_are, fill_more}
use Rattle.bitset.proofs.Outside.{rest_less, byte_outside}
use Rattle.bitset.proofs.complement.Goals as goal

pub loop-byte-preserved : goal.loop-byte-preserved
loop-byte-preserved c =
    let l = c.loop-byte in
    let i = l.byte-index in
    let m = c.args.mask.now in
    let same = l.invariant.1 i (omega arith) in
    let e = ap (λ (y : ℕ). 255 - y) same ∙ byte_outside m i (omega arith) in
    (fill_more (λ k. bits_of 8 (λ j. outside (marked m) (8 * k + j))) l.mask i _ (omega arith) l.invariant.0 e, rest_less m l.mask i _ l.invariant.1)

pub returns : goal.returns
returns c =
    let l = c.loop-byte in
    let m = c.args.mask.now in
    bytes_are (length m) l.mask (outside (marked m)) l.auto.mask (λ k h. l.invariant.0 k (omega arith))
