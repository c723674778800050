-- Tests as facts: what a Boolean test, and two of them together, say. Assumes nothing.
use Prim.Native.Nat.{ℕ}
use mathlib.Core.Path.{◌≡◌, refl, sym, ◌∙◌}
use mathlib.Core.Bool.{Bool, true, false, ◌&&◌, ◌||◌, not, false≢true}
use mathlib.Core.List.{List}
use mathlib.Core.Logic.{◌⊎◌, inl, inr}
use borrow.Author.Tests.{eqb-true, eq-eqb, not-false}
use lib.Dec.{eqb}
use lib.ListN.{length}

-- no test both holds and fails
pub clash : {A : Type 0} {b : Bool} → b ≡ true → b ≡ false → A
clash p q = absurd (false≢true (sym q ∙ p))

-- two tests are the same where each holds when the other does
pub same_test : (a b : Bool) → (a ≡ true → b ≡ true) → (b ≡ true → a ≡ true) → a ≡ b
same_test true true f g = refl
same_test true false f g = sym (f refl)
same_test false true f g = g refl
same_test false false f g = refl

-- both hold, and each then does
pub both : (a b : Bool) → a ≡ true → b ≡ true → (a && b) ≡ true
both a b p q = rw (p, q)

pub parts : (a b : Bool) → (a && b) ≡ true → (a ≡ true) × (b ≡ true)
parts true b e = (refl, e)
parts false b e = clash e refl

-- one of two holds, and then the first or the second
pub left : (a b : Bool) → a ≡ true → (a || b) ≡ true
left a b p = rw p

pub right : (a b : Bool) → b ≡ true → (a || b) ≡ true
right true b q = refl
right false b q = q

pub cases : (a b : Bool) → (a || b) ≡ true → (a ≡ true) ⊎ (b ≡ true)
cases true b e = inl refl
cases false b e = inr e

-- a slice that passes the test of its length has that length
pub length_is : {A : Type 0} (size : ℕ) (s : List A) → not (eqb (length s) size) ≡ false → length s ≡ size
length_is size s e = eqb-true (length s) size (not-false (eqb (length s) size) e)

pub length_passes : {A : Type 0} (size : ℕ) (s : List A) → length s ≡ size → not (eqb (length s) size) ≡ false
length_passes size s e = rw (eq-eqb (length s) size e)
