-- Growing and shrinking (docs/RULES.md, 6.2), by touching steps between the cells of a level.
use Rattle.std.specs.Prelude.{ℕ, ◌^◌, Bool, List, [], ◌∷◌, ltb, replicate}
use Rattle.refusal.specs.Answer.{Answer, Test, ◌when◌, in_order, lending, done}
use Rattle.refusal.specs.Tests.{bad_level, bad_length}
use Rattle.bitset.specs.Bits.{marked, bytes_of}
use Rattle.cell.specs.Cell.{cells}
use Rattle.corner.specs.Corner.{touches}
use Rattle.mask.specs.Mask.{max_mask_level}
use Rattle.walk.specs.Reach.{grown, shrunk}

-- the cells that have one of a set within m touching steps
abbrev pub grown_cells : ℕ → ℕ → (ℕ → Bool) → ℕ → Bool
grown_cells k m A = grown (cells k) (touches k) m A

-- the cells that have none but those of a set within m touching steps
abbrev pub shrunk_cells : ℕ → ℕ → (ℕ → Bool) → ℕ → Bool
shrunk_cells k m A = shrunk (cells k) (touches k) m A

-- the most rings of one call
abbrev pub max_rings : ℕ
max_rings = 64

-- 6: more rings than that
abbrev pub bad_rings : ℕ → Test
bad_rings m = 6 when ltb max_rings m

-- the tests of both calls: refused 1, 5, 6
abbrev pub ring_tests : ℕ → ℕ → List ℕ → List ℕ → List ℕ → List Test
ring_tests k m a out work =
    bad_level max_mask_level k ∷ bad_length (4 ^ k) a ∷ bad_length (4 ^ k) out ∷ bad_length (4 ^ k) work ∷ bad_rings m ∷ []

-- grow by m: reads a mask, writes another; the third, lent for working, holds zeros afterwards
abbrev pub grow_call : ℕ → ℕ → List ℕ → List ℕ → List ℕ → Answer (Unit {0}) × (List ℕ × List ℕ)
grow_call k m a out work =
    lending (in_order (ring_tests k m a out work) done)
    (out, work) (bytes_of (4 ^ k) (grown_cells k m (marked a)), replicate (4 ^ k) 0)

-- shrink by m: the same with the cells that have only marked ones within m touching steps
abbrev pub shrink_call : ℕ → ℕ → List ℕ → List ℕ → List ℕ → Answer (Unit {0}) × (List ℕ × List ℕ)
shrink_call k m a out work =
    lending (in_order (ring_tests k m a out work) done)
    (out, work) (bytes_of (4 ^ k) (shrunk_cells k m (marked a)), replicate (4 ^ k) 0)
