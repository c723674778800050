-- Sets of cells as bits of bytes (docs/RULES.md, 6.1): bit c % 8 of byte c / 8 stands for cell c, bit 0 being the lowest.
use Rattle.std.specs.Prelude.{ℕ, zero, suc, ◌+◌, ◌*◌, ◌/◌, ◌%◌, ◌^◌, ◌<◌, Bool, cond, not, List, [], ◌∷◌, ◌++◌, eqb, get_or, set}

-- bit j of a byte, low bit first
unfoldable pub bit : ℕ → ℕ → Bool
bit x j = eqb (x / 2 ^ j % 2) 1

-- bytes: every element is below 256 (past its end a list is read as 0)
abbrev pub Bytes : List ℕ → Type 0
Bytes s = (i : ℕ) → get_or s i 0 < 256

-- whether a cell is marked; past the end of the bytes none is
unfoldable pub marked : List ℕ → ℕ → Bool
marked s c = bit (get_or s (c / 8) 0) (c % 8)

-- the number whose n lowest bits are those of a set, and no others
unfoldable pub bits_of : ℕ → (ℕ → Bool) → ℕ
bits_of zero P = 0
bits_of (suc n) P = bits_of n P + cond (P n) (2 ^ n) 0

-- the n bytes that mark exactly the cells of a set that are below 8 × n
unfoldable pub bytes_of : ℕ → (ℕ → Bool) → List ℕ
bytes_of zero P = []
bytes_of (suc n) P = bytes_of n P ++ (bits_of 8 (λ j. P (8 * n + j)) ∷ [])

-- how many numbers below n are in a set
unfoldable pub size : ℕ → (ℕ → Bool) → ℕ
size zero P = 0
size (suc n) P = size n P + cond (P n) 1 0

-- the bytes with one cell more marked; past their end they stay
unfoldable pub marking : List ℕ → ℕ → List ℕ
marking s c = cond (marked s c) s (set s (c / 8) (get_or s (c / 8) 0 + 2 ^ (c % 8)))

-- what is not in a set
unfoldable pub outside : (ℕ → Bool) → ℕ → Bool
outside P c = not (P c)
