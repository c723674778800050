-- The list of touching cells (docs/RULES.md, 5). At level k, N is 2 ^ k.
use Rattle.std.specs.Prelude.{ℕ, zero, suc, ◌-◌, ◌^◌, ◌≡◌, Bool, ◌&&◌, not, cond, List, [], ◌∷◌, ◌++◌, ◌⊎◌, pos, length, replicate}
use Rattle.refusal.specs.Answer.{Answer, in_order, lending}
use Rattle.refusal.specs.Tests.{bad_level, bad_length}
use Rattle.cell.specs.Cell.{up, Place, place, max_level, cells, no_cell, bad_cell}
use Rattle.code.specs.Neighbours.{is_direct}
use Rattle.corner.specs.Corner.{Point, coordinate, corners, among, touches}

-- ---- the cells that touch a cell

-- the numbers from m on, j of them, that pass a test, rising
unfoldable pub rising : (ℕ → Bool) → ℕ → ℕ → List ℕ
rising P zero m = []
rising P (suc j) m = cond (P m) (m ∷ rising P j (suc m)) (rising P j (suc m))

-- the cells that touch cell n
unfoldable pub touching : ℕ → ℕ → List ℕ
touching k n = rising (touches k n) (cells k) 0

-- the indirect neighbours of cell n: the cells that touch it and are no direct neighbours
unfoldable pub indirect : ℕ → ℕ → List ℕ
indirect k n = rising (λ m. touches k n m && not (is_direct k n m)) (cells k) 0

-- an octant's three corner cells: at the west and the east end of the equator's row, and at the pole
unfoldable pub CornerCell : ℕ → Place → Type 0
CornerCell k p = (p.1 ≡ up 0 0) ⊎ (p.1 ≡ up 0 (2 ^ k - 1)) ⊎ (p.1 ≡ up (2 ^ k - 1) 0)

-- ---- the cells at a point

-- the cells that have a point for a corner
unfoldable pub cells_at : ℕ → Point → List ℕ
cells_at k x = rising (λ n. among x (corners k (place k n))) (cells k) 0

-- two of a point's three numbers are 0: so at the octahedron's six corners
unfoldable pub Tip : Point → Type 0
Tip x =
    ((coordinate x 0 ≡ pos 0) × (coordinate x 1 ≡ pos 0))
    ⊎ ((coordinate x 0 ≡ pos 0) × (coordinate x 2 ≡ pos 0))
    ⊎ ((coordinate x 1 ≡ pos 0) × (coordinate x 2 ≡ pos 0))

-- ---- the call

-- what an unused place of the list's slice holds
abbrev pub unused : ℕ
unused = no_cell

-- a list in a slice of exactly 12
unfoldable pub padded : List ℕ → List ℕ
padded l = l ++ replicate (12 - length l) unused

-- the list of touching cells, and how many they are: refused 1, 4, 5
abbrev pub list_call : ℕ → ℕ → List ℕ → Answer ℕ × List ℕ
list_call k n out =
    lending (in_order (bad_level max_level k ∷ bad_cell k n ∷ bad_length 12 out ∷ []) (length (touching k n))) out (padded (touching k n))
