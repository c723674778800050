-- Lists of cells or codes that are found one after another. Assumes nothing.
use Prim.Native.Nat.{ℕ, ◌+◌, ◌<◌}
use mathlib.Core.Path.{◌≡◌, refl, sym, ap, ◌∙◌}
use mathlib.Core.List.{List, [], ◌∷◌, ◌++◌, append_assoc}
use mathlib.Core.Option.{Option, none, some}
use native.Mathlib.Numerals.{add-one}
use lib.ListN.{length, take, get_or}
use lib.Seq.{take-suc}
use Rattle.border.specs.Stored.{before}

-- what was found, and then the rest, where there is one
abbrev pub onto : List ℕ → Option (List ℕ) → Option (List ℕ)
onto xs none = none
onto xs (some ys) = some (xs ++ ys)

pub onto_none : (o : Option (List ℕ)) → o ≡ onto [] o
onto_none none = refl
onto_none (some ys) = refl

-- one found more is one fewer to find
pub onto_before : (xs : List ℕ) (n : ℕ) (o : Option (List ℕ)) → onto xs (before n o) ≡ onto (xs ++ (n ∷ [])) o
onto_before xs n none = refl
onto_before xs n (some ys) = ap some (sym (append_assoc xs (n ∷ []) ys))

-- the first i + 1 numbers of a list are the first i and that at i
pub take_one_more : (l : List ℕ) (i : ℕ) → i < length l → take (i + 1) l ≡ take i l ++ (get_or l i 0 ∷ [])
take_one_more l i h = ap (λ (j : ℕ). take j l) (add-one i) ∙ take-suc l i 0 h
