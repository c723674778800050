-- What the bit arithmetic between digits and places claims.
use Rattle.std.specs.Prelude.{ℕ, zero, suc, ◌+◌, ◌*◌, ◌/◌, ◌%◌}

-- the k lowest digits of x in base B, each put through f, read in base C
unfoldable pub recode : ℕ → ℕ → (ℕ → ℕ) → ℕ → ℕ → ℕ
recode B C f zero x = 0
recode B C f (suc k) x = recode B C f k (x / B) * C + f (x % B)

-- the k lowest bits of x as digits in base 4: at the even places
abbrev pub spread : ℕ → ℕ → ℕ
spread = recode 2 4 (λ d. d)

-- the low bits of the k lowest base-4 digits of x
abbrev pub evens : ℕ → ℕ → ℕ
evens = recode 4 2 (λ d. d % 2)

-- how many of the k lowest bits of x are set
abbrev pub ones : ℕ → ℕ → ℕ
ones = recode 2 1 (λ d. d)

-- bit i tells whether an odd number of the bits i to k − 1 of x are set
unfoldable pub odd_from : ℕ → ℕ → ℕ
odd_from zero x = 0
odd_from (suc k) x = odd_from k (x / 2) * 2 + ones (suc k) x % 2
