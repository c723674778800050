-- Walks from cell to cell (docs/RULES.md, 5 and 6), over any test R of two cells: R c d says whether one step leads from c to d.
use Rattle.std.specs.Prelude.{ℕ, ◌+◌, ◌≤◌, ◌≡◌, Bool, true, List, [], ◌∷◌, length}

-- a step leads from each cell of a list to the next
abbrev pub Linked : (ℕ → ℕ → Bool) → ℕ → List ℕ → Type 0
Linked R c [] = Unit {0}
Linked R c (d ∷ ds) = (R c d ≡ true) × Linked R d ds

-- the last of a list that begins with c
abbrev pub last : ℕ → List ℕ → ℕ
last c [] = c
last c (d ∷ ds) = last d ds

-- a walk of at most m steps from c to d: a chain of no more than m + 1 cells from c to d, with a step from each to the next
pub record Walk (R : ℕ → ℕ → Bool) (m c d : ℕ) : Type 0 where
  pub rest : List ℕ
  pub few : length (c ∷ rest) ≤ m + 1
  pub linked : Linked R c rest
  pub ends : last c rest ≡ d
