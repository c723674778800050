-- The numbers of a stored border (docs/RULES.md, 8): seven bits to a byte, the lowest first, and the high bit says that another byte follows. No form
-- is longer than it needs to be or than five bytes, and all numbers are below 2^32.
use Rattle.std.specs.Prelude.{ℕ, zero, suc, ◌+◌, ◌-◌, ◌*◌, ◌/◌, ◌%◌, ◌^◌, ◌≤◌, ◌<◌, not, cond, ◌⊎◌, ◌≡◌, List, [], ◌∷◌, ◌++◌, leb, ltb, eqb, length, take, drop, get_or}
use Rattle.refusal.specs.Answer.{Answer, given, refused, ◌when◌, in_order, lending}

-- the bytes of n in at most f groups: low group first, 128 added where another follows
unfoldable pub groups : ℕ → ℕ → List ℕ
groups zero n = []
groups (suc f) n = cond (ltb n 128) (n ∷ []) ((128 + n % 128) ∷ groups f (n / 128))

-- the bytes of a number below 2^32: the shortest form
abbrev pub numeral : ℕ → List ℕ
numeral n = groups 5 n

-- a byte with its high bit set, before what the bytes after it say
abbrev pub more : ℕ → Answer (ℕ × ℕ) → Answer (ℕ × ℕ)
more b (given (v, n)) = given (b - 128 + 128 * v, n + 1)
more b (refused n) = refused n

-- what bytes say in at most f groups: the number, and how many bytes it has; 10 where they end early, 11 where the f-th has its high bit set
unfoldable pub valued : ℕ → List ℕ → Answer (ℕ × ℕ)
valued zero bs = refused 11
valued (suc f) [] = refused 10
valued (suc f) (b ∷ bs) = cond (ltb b 128) (given (b, 1)) (more b (valued f bs))

-- 11 too: 2^32 and above, or not the shortest form; otherwise the number and the place after it
abbrev pub in_form : ℕ → Answer (ℕ × ℕ) → Answer (ℕ × ℕ)
in_form at (given (v, n)) = in_order ((11 when leb (2 ^ 32) v) ∷ (11 when not (eqb n (length (numeral v)))) ∷ []) (v, at + n)
in_form at (refused n) = refused n

-- reading a number from a place on: refused 10, 11
abbrev pub read_call : List ℕ → ℕ → Answer (ℕ × ℕ)
read_call bs at = in_form at (valued 5 (drop at bs))

-- a number that was read, from a place to the next, is below 2^32, and the bytes there are its own and no other's
pub record Exactly (bs : List ℕ) (at v next : ℕ) : Type 0 where
  pub below : v < 2 ^ 32
  pub place : next ≡ at + length (numeral v)
  pub bytes : take (next - at) (drop at bs) ≡ numeral v

-- ---- what is said of refused numbers in theorems, over the bytes from the number's place on

-- the first j bytes have their high bit set
abbrev pub HighBits : ℕ → List ℕ → Type 0
HighBits j bs = (i : ℕ) → i < j → 128 ≤ get_or bs i 0

-- fewer than five bytes with the high bit set, and none after them
abbrev pub EndsEarly : List ℕ → Type 0
EndsEarly bs = (length bs < 5) × HighBits (length bs) bs

-- what j bytes with the high bit set and the one after them say
unfoldable pub groups_say : ℕ → List ℕ → ℕ
groups_say zero bs = get_or bs 0 0
groups_say (suc j) bs = get_or bs 0 0 - 128 + 128 * groups_say j (drop 1 bs)

-- a number of j + 1 bytes, at most five, that is 2^32 or above, or has a last group of 0 though it isn't its only one
pub record OutOfForm (bs : List ℕ) : Type 0 where
  pub before : ℕ
  pub few : before < 5
  pub high : HighBits before bs
  pub ends : (before < length bs) × (get_or bs before 0 < 128)
  pub bad : (2 ^ 32 ≤ groups_say before bs) ⊎ ((1 ≤ before) × (get_or bs before 0 ≡ 0))

-- not in the form of a stored number: five bytes with the high bit set, or a number out of form
abbrev pub NotInForm : List ℕ → Type 0
NotInForm bs = HighBits 5 bs ⊎ OutOfForm bs

-- writing a number from a place on, and the place after it; the rest of the slice stays: refused 5
abbrev pub write_call : ℕ → List ℕ → ℕ → Answer ℕ × List ℕ
write_call n out at =
    let next = at + length (numeral n) in
    lending (in_order ((5 when ltb (length out) next) ∷ []) next) out (take at out ++ (numeral n ++ drop next out))
