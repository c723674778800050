-- The cell number of an address, character by character.
use Rattle.std.specs.Prelude.{ℕ, ◌+◌, ◌*◌, ◌%◌, List, [], ◌∷◌}

-- one digit more: the characters 0 to 7 leave their digits when divided by 8, and what is above 2^28 is dropped so that the number fits
abbrev pub with_digit : ℕ → ℕ → ℕ
with_digit n character = n % 268435456 * 4 + character % 8

-- from the number of the characters before
unfoldable pub number_from : ℕ → List ℕ → ℕ
number_from n [] = n
number_from n (character ∷ rest) = number_from (with_digit n character) rest
