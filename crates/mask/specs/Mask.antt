-- Masks (docs/RULES.md, 6): one bit a cell, so 4^k bytes for the 8 × 4^k cells of level k.
use Rattle.std.specs.Prelude.{ℕ, zero, suc, ◌^◌, Bool, ◌&&◌, ◌||◌, not, cond, List, [], ◌∷◌, Option, Some, None}
use Rattle.refusal.specs.Answer.{Answer, Test, in_order, lending, done}
use Rattle.refusal.specs.Tests.{bad_level, bad_length}
use Rattle.bitset.specs.Bits.{marked, bytes_of, size}
use Rattle.cell.specs.Cell.{cells}

-- the highest level of masks and charts
abbrev pub max_mask_level : ℕ
max_mask_level = 8

-- ---- whether a slice is a mask of a level

-- the tests of a call by level and mask
abbrev pub mask_tests : ℕ → List ℕ → List Test
mask_tests k a = bad_level max_mask_level k ∷ bad_length (4 ^ k) a ∷ []

-- refused 1, 5
abbrev pub mask_call : ℕ → List ℕ → Answer (Unit {0})
mask_call k a = in_order (mask_tests k a) done

-- ---- the count of marked cells

-- refused 1, 5
abbrev pub count_call : ℕ → List ℕ → Answer ℕ
count_call k a = in_order (bad_level max_mask_level k ∷ bad_length (4 ^ k) a ∷ []) (size (cells k) (marked a))

-- ---- join: the cells marked in either of two masks

unfoldable pub union : (ℕ → Bool) → (ℕ → Bool) → ℕ → Bool
union A B c = A c || B c

-- refused 1, 5
abbrev pub join_tests : ℕ → List ℕ → List ℕ → List ℕ → List Test
join_tests k a b out = bad_level max_mask_level k ∷ bad_length (4 ^ k) a ∷ bad_length (4 ^ k) b ∷ bad_length (4 ^ k) out ∷ []

abbrev pub join_call : ℕ → List ℕ → List ℕ → List ℕ → Answer (Unit {0}) × List ℕ
join_call k a b out = lending (in_order (join_tests k a b out) done) out (bytes_of (4 ^ k) (union (marked a) (marked b)))

-- ---- within: whether the second mask marks all that the first does, and if not, the lowest cell that it leaves out

pub data Inclusion : Type 0 where
  within : Inclusion
  lacks : ℕ → Inclusion

-- the lowest of j numbers from m on that is in a set
unfoldable pub lowest : (ℕ → Bool) → ℕ → ℕ → Inclusion
lowest P zero m = within
lowest P (suc j) m = cond (P m) (lacks m) (lowest P j (suc m))

unfoldable pub difference : (ℕ → Bool) → (ℕ → Bool) → ℕ → Bool
difference A B c = A c && not (B c)

-- refused 1, 5
abbrev pub within_call : ℕ → List ℕ → List ℕ → Answer Inclusion
within_call k a b =
    in_order (bad_level max_mask_level k ∷ bad_length (4 ^ k) a ∷ bad_length (4 ^ k) b ∷ [])
    (lowest (difference (marked a) (marked b)) (cells k) 0)

-- how the code answers it: the cell where there is one
abbrev pub inclusion_of : Option ℕ → Inclusion
inclusion_of None = within
inclusion_of (Some c) = lacks c
