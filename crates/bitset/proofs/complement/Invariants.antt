use Prim.Native.Nat.{ℕ, ◌+◌, ◌*◌, ◌<◌}
use mathlib.Core.Path.{◌≡◌}
use lib.ListN.{get_or}
use Rattle.bitset.specs.Bits.{marked, bits_of, outside}
use Rattle.bitset.proofs.Outside.{Rest}
use Rattle.bitset.proofs.complement.Given as goal

abbrev pub invariant-loop-byte : goal.invariant-loop-byte
invariant-loop-byte l =
    ((k : ℕ) → k < l.byte-index → get_or l.mask k 0 ≡ bits_of 8 (λ j. outside (marked l.initial.mask) (8 * k + j)))
    × Rest l.initial.mask l.mask l.byte-index
