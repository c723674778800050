-- The codes of docs/RULES.md, 4, by their numbers.
use Rattle.std.specs.Prelude.{ℕ, Result, [], ◌∷◌, ◌≡◌, leb}
use Rattle.refusal.specs.Answer.{◌when◌, in_order}
use Rattle.refusal.specs.Refusal.{said_as}
use Rattle.refusal.specs.declared.Refusal.{Refusal}
use Rattle.step.specs.declared.Code.{Code}
use Rattle.step.specs.declared.Code.TheVariants as code

abbrev pub code_of : Code → ℕ
code_of code.Top = 0
code_of code.Left = 1
code_of code.Right = 2
code_of code.East = 3
code_of code.West = 4
code_of code.OverEquator = 5
code_of code.OverEast = 6
code_of code.OverWest = 7

-- the result is the code with this number; a number above 7 is refused 7
abbrev pub Reads : ℕ → Result Code Refusal → Type 0
Reads n r = said_as code_of r ≡ in_order (7 when leb 8 n ∷ []) n
