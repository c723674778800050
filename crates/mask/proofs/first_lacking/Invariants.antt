-- No cell of the bytes passed lacks, nor of the bits passed of the byte at hand.
use Rattle.std.proofs.Common.{◌≡◌, ◌*◌, ℕ, ◌+◌, ◌<◌, false, None}
use Rattle.bitset.specs.Bits.{marked}
use Rattle.mask.specs.Mask.{difference}
use Rattle.mask.proofs.first_lacking.Given as goal

abbrev pub invariant-loop-j : goal.invariant-loop-j
invariant-loop-j l = (l.lacking ≡ None) × ((c : ℕ) → c < 8 * l.i + l.j → difference (marked l.a) (marked l.b) c ≡ false)

abbrev pub invariant-bytes : goal.invariant-bytes
invariant-bytes l = (l.lacking ≡ None) × ((c : ℕ) → c < 8 * l.i → difference (marked l.a) (marked l.b) c ≡ false)
