-- Filling a region (docs/RULES.md, 6.2): the cells to which no chain of direct steps over unmarked cells leads from the outside cell.
use Rattle.std.specs.Prelude.{ℕ, ◌^◌, Bool, ◌&&◌, not, List, [], ◌∷◌}
use Rattle.refusal.specs.Answer.{Answer, Test, ◌when◌, in_order, lending, done}
use Rattle.refusal.specs.Tests.{bad_level, bad_length}
use Rattle.bitset.specs.Bits.{marked, bytes_of, outside}
use Rattle.cell.specs.Cell.{cells, bad_cell}
use Rattle.code.specs.Neighbours.{is_direct}
use Rattle.mask.specs.Mask.{max_mask_level}
use Rattle.walk.specs.Walk.{Walk}
use Rattle.walk.specs.Reach.{reaches}

-- a direct step to a cell that is not in a set
unfoldable pub open_step : ℕ → (ℕ → Bool) → ℕ → ℕ → Bool
open_step k A c d = is_direct k c d && not (A d)

-- some list of cells begins with the outside cell o and ends with c, from each a direct step to the next, which is unmarked
abbrev pub Reachable : ℕ → (ℕ → Bool) → ℕ → ℕ → Type 0
Reachable k A o c = (m : ℕ) × Walk (open_step k A) m o c

-- the same computed: as many steps as there are cells are enough
unfoldable pub reachable : ℕ → (ℕ → Bool) → ℕ → ℕ → Bool
reachable k A o c = reaches (cells k) (open_step k A) (cells k) o c

-- what is filled: all cells but those that the outside cell reaches
abbrev pub unreached : ℕ → (ℕ → Bool) → ℕ → ℕ → Bool
unreached k A o = outside (reachable k A o)

-- 8: the outside cell is marked
abbrev pub bad_outside : List ℕ → ℕ → Test
bad_outside a o = 8 when marked a o

-- refused 1, 4, 5, 8
abbrev pub fill_tests : ℕ → List ℕ → ℕ → List ℕ → List Test
fill_tests k a o out = bad_level max_mask_level k ∷ bad_cell k o ∷ bad_length (4 ^ k) a ∷ bad_length (4 ^ k) out ∷ bad_outside a o ∷ []

-- fill: reads a border and an outside cell, and marks in another mask what that cell can't reach; the border is part of it
abbrev pub fill_call : ℕ → List ℕ → ℕ → List ℕ → Answer (Unit {0}) × List ℕ
fill_call k a o out = lending (in_order (fill_tests k a o out) done) out (bytes_of (4 ^ k) (unreached k (marked a) o))
