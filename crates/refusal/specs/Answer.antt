-- What a call answers, and how its tests are put in order (docs/RULES.md, 9).
use Rattle.std.specs.Prelude.{ℕ, Bool, true, false, List, [], ◌∷◌, ◌⊎◌, ◌≡◌}

-- a value, or a refusal by its number
pub data Answer (A : Type 0) : Type 0 where
  given : A → Answer A
  refused : ℕ → Answer A

-- a test of a call: the number it refuses by, and whether it applies
pub data Test : Type 0 where
  ◌when◌ : ℕ → Bool → Test

infix 70 ◌when◌
-- one test: where it applies, the refusal, and otherwise what follows
abbrev pub unless : {A : Type 0} → Test → Answer A → Answer A
unless (n when true) rest = refused n
unless (n when false) rest = rest

-- a call's tests in their order: the first that applies refuses, and where none does the call gives its value
abbrev pub in_order : {A : Type 0} → List Test → A → Answer A
in_order [] a = given a
in_order (t ∷ ts) a = unless t (in_order ts a)

-- what a call leaves in the slices that it was lent: a refused one leaves them as they were before
abbrev pub leaving : {A S : Type 0} → Answer A → S → S → S
leaving (given a) before after = after
leaving (refused n) before after = before

-- a call that is lent slices: its answer, and what they hold afterwards
abbrev pub lending : {A S : Type 0} → Answer A → S → S → Answer A × S
lending answer before after = (answer, leaving answer before after)

-- the value of a call that has none to give beyond its work
abbrev pub done : Unit {0}
done = tt

-- n is the number of the first test of a list that applies
abbrev pub First : ℕ → List Test → Type 0
First n [] = ⊥
First n ((m when b) ∷ ts) = ((b ≡ true) × (n ≡ m)) ⊎ ((b ≡ false) × First n ts)
