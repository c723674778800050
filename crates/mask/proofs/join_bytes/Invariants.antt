-- The bytes passed hold the bits of either mask.
use Rattle.std.proofs.Common.{◌≡◌, ◌*◌, ℕ, ◌+◌, ◌<◌, get_or}
use Rattle.bitset.specs.Bits.{marked, bits_of}
use Rattle.mask.specs.Mask.{union}
use Rattle.mask.proofs.join_bytes.Given as goal

abbrev pub invariant-loop-i : goal.invariant-loop-i
invariant-loop-i l = (k : ℕ) → k < l.i → get_or l.out k 0 ≡ bits_of 8 (λ j. union (marked l.a) (marked l.b) (8 * k + j))
