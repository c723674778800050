-- What is said of steps in theorems (docs/RULES.md, 4): the code back, the direct codes, and a cell's three direct neighbours.
use Rattle.std.specs.Prelude.{ℕ, Bool, true, false, [], ◌∷◌, ◌⊎◌, ◌≡◌, get_or}
use Rattle.std.proofs.Math.Option.{Option, none, some}
use Rattle.refusal.specs.Answer.{given, refused}
use Rattle.cell.specs.Cell.{place}
use Rattle.code.specs.Step.{code_to, step_call}

-- the code back: t and T are their own, l and r change places, and so do e and w, E and W
unfoldable pub back : ℕ → ℕ
back c = get_or (0 ∷ 2 ∷ 1 ∷ 4 ∷ 3 ∷ 5 ∷ 7 ∷ 6 ∷ []) c c

-- the direct codes: t, l, r and T, E, W
unfoldable pub direct : ℕ → Bool
direct c = get_or (true ∷ true ∷ true ∷ false ∷ false ∷ true ∷ true ∷ true ∷ []) c false

-- whether a code is there and is a direct one
unfoldable pub direct_code : Option ℕ → Bool
direct_code none = false
direct_code (some c) = direct c

-- whether cell m is a direct neighbour of cell n
unfoldable pub is_direct : ℕ → ℕ → ℕ → Bool
is_direct k n m = direct_code (code_to k m (place k n))

-- ---- three direct neighbours

-- exactly one of two steps from cell n is given, to cell m, and the other is refused 7
abbrev pub OneOf : ℕ → ℕ → ℕ → ℕ → ℕ → Type 0
OneOf k n c d m =
    ((step_call k n c ≡ given m) × (step_call k n d ≡ refused 7)) ⊎ ((step_call k n c ≡ refused 7) × (step_call k n d ≡ given m))

-- the direct neighbours of cell n: one by t or T, one by l or W, one by r or E, three different cells, and no other
pub record Neighbours (k n : ℕ) : Type 0 where
  pub top : ℕ
  pub left : ℕ
  pub right : ℕ
  pub by_top : OneOf k n 0 5 top
  pub by_left : OneOf k n 1 7 left
  pub by_right : OneOf k n 2 6 right
  pub top_left : ¬ (top ≡ left)
  pub left_right : ¬ (left ≡ right)
  pub right_top : ¬ (right ≡ top)
  pub only : (c m : ℕ) → direct c ≡ true → step_call k n c ≡ given m → (m ≡ top) ⊎ (m ≡ left) ⊎ (m ≡ right)
