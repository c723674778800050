-- Printed text as bytes in ASCII.
use Rattle.std.specs.Prelude.{ℕ, zero, suc, ◌+◌, ◌/◌, ◌%◌, cond, List, [], ◌∷◌, ◌++◌, leb, ltb, length, take, drop}

-- a number's digits, at most j of them, the highest first and no zero in front
unfoldable pub spelled : ℕ → ℕ → List ℕ
spelled zero n = []
spelled (suc j) n = cond (ltb n 10) ((48 + n) ∷ []) (spelled j (n / 10) ++ ((48 + n % 10) ∷ []))

-- a number below 10^20 in decimal
abbrev pub decimal : ℕ → List ℕ
decimal n = spelled 20 n

-- a slice with text put into it from a place on, and the place after it; where the text does not fit, all stays
unfoldable pub appended : List ℕ → ℕ → List ℕ → List ℕ × ℕ
appended out at t =
    cond (leb (at + length t) (length out)) (take at out ++ (t ++ drop (at + length t) out), at + length t) (out, at)

-- `refused` and a space
abbrev pub refused_word : List ℕ
refused_word = 114 ∷ 101 ∷ 102 ∷ 117 ∷ 115 ∷ 101 ∷ 100 ∷ 32 ∷ []

-- the line of a refused call: the word, its number and the line end
abbrev pub refusal_line : ℕ → List ℕ
refusal_line n = refused_word ++ decimal n ++ (10 ∷ [])
