-- Steps between numbers below M, and what grows and shrinks by them (docs/RULES.md, 6). R c d says whether one step leads from c to d.
use Rattle.std.specs.Prelude.{ℕ, zero, suc, Bool, true, false, ◌&&◌, ◌||◌, not, eqb}

-- some number below n is in a set
unfoldable pub any_below : ℕ → (ℕ → Bool) → Bool
any_below zero P = false
any_below (suc n) P = any_below n P || P n

-- every number below n is in a set
unfoldable pub all_below : ℕ → (ℕ → Bool) → Bool
all_below zero P = true
all_below (suc n) P = all_below n P && P n

-- whether d is at most m steps from c
unfoldable pub reaches : ℕ → (ℕ → ℕ → Bool) → ℕ → ℕ → ℕ → Bool
reaches M R zero c d = eqb c d
reaches M R (suc m) c d = reaches M R m c d || any_below M (λ e. reaches M R m c e && R e d)

-- the numbers at most m steps from one of a set
unfoldable pub grown : ℕ → (ℕ → ℕ → Bool) → ℕ → (ℕ → Bool) → ℕ → Bool
grown M R m A c = any_below M (λ d. reaches M R m c d && A d)

-- the numbers from which every number within m steps is in a set
unfoldable pub shrunk : ℕ → (ℕ → ℕ → Bool) → ℕ → (ℕ → Bool) → ℕ → Bool
shrunk M R m A c = all_below M (λ d. not (reaches M R m c d) || A d)
