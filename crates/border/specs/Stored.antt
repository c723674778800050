-- The stored form (docs/RULES.md, 8): three stored numbers, which are the level, the first cell and how many codes follow, and then the codes in
-- three bits each, with zeros after the last.
use Rattle.std.specs.Prelude.{ℕ, zero, suc, ◌+◌, ◌*◌, ◌/◌, ◌%◌, List, [], ◌∷◌, ◌++◌, length}
use Rattle.std.proofs.Math.Option.{Option, none, some}
use Rattle.refusal.specs.Answer.{Answer, given, refused}
use Rattle.varint.specs.Varint.{numeral}
use Rattle.code.specs.Step.{step_call, code_call}

-- ---- codes as bits

-- n digits of a number in base b, low digit first; and the number that digits say
unfoldable pub digits_of : ℕ → ℕ → ℕ → List ℕ
digits_of b zero v = []
digits_of b (suc n) v = (v % b) ∷ digits_of b n (v / b)

unfoldable pub value_of : ℕ → List ℕ → ℕ
value_of b [] = 0
value_of b (d ∷ ds) = d + b * value_of b ds

-- how many bytes n codes take
abbrev pub code_bytes : ℕ → ℕ
code_bytes n = (3 * n + 7) / 8

-- codes are the digits of one number in base 8, the bytes its digits in base 256, low digit first: codes 3 and 1 are 3 + 8 · 1 = 11, byte 0B
abbrev pub packed : List ℕ → List ℕ
packed codes = digits_of 256 (code_bytes (length codes)) (value_of 8 codes)

abbrev pub unpacked : ℕ → List ℕ → List ℕ
unpacked n bs = digits_of 8 n (value_of 256 bs)

-- ---- the bytes of a border

abbrev pub stored : ℕ → ℕ → List ℕ → List ℕ
stored k start codes = numeral k ++ (numeral start ++ (numeral (length codes) ++ packed codes))

-- ---- cells and codes

-- one more at the front of a list, where there is a list
abbrev pub before : ℕ → Option (List ℕ) → Option (List ℕ)
before n none = none
before n (some ns) = some (n ∷ ns)

-- what goes on from what a call gives; nothing does where it is refused
abbrev pub onward : Answer ℕ → (ℕ → Option (List ℕ)) → Option (List ℕ)
onward (given m) rest = rest m
onward (refused i) rest = none

-- the cells that codes lead through from cell n, itself the first; none where a step is missing
unfoldable pub walked : ℕ → ℕ → List ℕ → Option (List ℕ)
walked k n [] = some (n ∷ [])
walked k n (c ∷ codes) = onward (step_call k n c) (λ m. before n (walked k m codes))

-- the codes that lead from cell m through the cells after it; none where no code joins one of them to the next
unfoldable pub codes_between : ℕ → ℕ → List ℕ → Option (List ℕ)
codes_between k m [] = some []
codes_between k m (n ∷ ns) = onward (code_call k m n) (λ c. before c (codes_between k n ns))
