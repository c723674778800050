-- Tests that calls of several crates have, each with its number in the table of docs/RULES.md, 9.
use Rattle.std.specs.Prelude.{ℕ, false, not, List, ltb, eqb, length}
use Rattle.refusal.specs.Answer.{Test, ◌when◌}

-- a test that never applies
abbrev pub passes : Test
passes = 0 when false

-- 1: the level is above its bound
abbrev pub bad_level : ℕ → ℕ → Test
bad_level bound k = 1 when ltb bound k

-- 5: a slice is not of its exact length
abbrev pub bad_length : {A : Type 0} → ℕ → List A → Test
bad_length size s = 5 when not (eqb (length s) size)
