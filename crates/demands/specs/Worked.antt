-- The starred examples (docs/RULES.md, 11), and two fillings besides, as one list of statements over the calls' own definitions.
use Rattle.std.specs.Prelude.{◌≡◌, List, [], ◌∷◌, pos, neg_ℤ}
use Rattle.refusal.specs.Answer.{given}
use Rattle.cell.specs.Cell.{up, down, place_call}
use Rattle.position.specs.Position.{cell_call}
use Rattle.centre.specs.Centre.{centre_call}
use Rattle.code.specs.Step.{step_call}
use Rattle.grow.specs.Grow.{grow_call, shrink_call}
use Rattle.fill.specs.Fill.{fill_call}

-- each statement of a list holds
abbrev pub All : List (Type 0) → Type 0
All [] = Unit {0}
All (P ∷ Ps) = P × All Ps

unfoldable pub worked_cells : List (Type 0)
worked_cells =
    -- level 4, octant 0: the cells with the digits 3023 and 1003
    (place_call 4 203 ≡ given (0, down 3 9))
    ∷ (place_call 4 67 ≡ given (0, up 10 3))
    -- T (code 5) of 02323 (cell 187) is 42323 (cell 1211)
    ∷ (step_call 4 187 5 ≡ given 1211)
    -- E (code 6) of 01313 (cell 119) is 11212 (cell 358)
    ∷ (step_call 4 119 6 ≡ given 358)
    -- W (code 7) of 01212 (cell 102) is 31313 (cell 887)
    ∷ (step_call 4 102 7 ≡ given 887)
    -- on a slanted side, and a millionth of a degree west of it
    ∷ (cell_call 1 (pos 22500000) (pos 30000000) ≡ given 0)
    ∷ (cell_call 1 (pos 22500000) (pos 29999999) ≡ given 2)
    -- on a side along a parallel, and a millionth of a degree south of it
    ∷ (cell_call 1 (pos 45000000) (pos 0) ≡ given 1)
    ∷ (cell_call 1 (pos 44999999) (pos 0) ≡ given 2)
    -- the centres of cell 7 at level 0 and of cell 2 at level 1
    ∷ (centre_call 0 7 ≡ given (neg_ℤ (pos 30000000), neg_ℤ (pos 45000000)))
    ∷ (centre_call 1 2 ≡ given (pos 15000000, pos 18000000))
    -- level 0: the mask of cell 0 (byte 1) grown once is byte 191, grown twice 255; byte 191 shrunk once is byte 1
    ∷ (grow_call 0 1 (1 ∷ []) (0 ∷ []) (0 ∷ []) ≡ (given tt, (191 ∷ [], 0 ∷ [])))
    ∷ (grow_call 0 2 (1 ∷ []) (0 ∷ []) (0 ∷ []) ≡ (given tt, (255 ∷ [], 0 ∷ [])))
    ∷ (shrink_call 0 1 (191 ∷ []) (0 ∷ []) (0 ∷ []) ≡ (given tt, (1 ∷ [], 0 ∷ [])))
    -- level 0, filled from cell 0: a border of cell 1 (byte 2) encloses nothing; one of cells 1, 3 and 4 (byte 26) leaves only cell 0 outside
    ∷ (fill_call 0 (2 ∷ []) 0 (0 ∷ []) ≡ (given tt, 2 ∷ []))
    ∷ (fill_call 0 (26 ∷ []) 0 (0 ∷ []) ≡ (given tt, 254 ∷ []))
    ∷ []
