-- What follows from an answer, once for every call: a given answer passed every test; a refused one has the number of the first test that
-- applies, and leaves the slices; and a call whose tests begin with another's is refused where that one is. Assumes nothing.
use Prim.Native.Nat.{ℕ}
use mathlib.Core.Path.{◌≡◌, refl, sym, ap}
use mathlib.Core.Bool.{true, false}
use mathlib.Core.List.{List, [], ◌∷◌, ◌++◌}
use mathlib.Core.Logic.{inl, inr}
use native.Mathlib.Omega.{arith}
use Rattle.refusal.specs.Answer.{Answer, given, refused, Test, ◌when◌, in_order, lending, First}
use Rattle.refusal.proofs.Tests.{clash}

-- ---- a value is no refusal

pub given≢refused : {A B : Type 0} {a : A} {n : ℕ} → given a ≡ refused n → B
given≢refused e = let z : ◌≡◌ {A = ℕ} 0 1 = cc in absurd (omega arith)

pub given_same : {A : Type 0} {a b : A} → given a ≡ given b → a ≡ b
given_same e = cc

pub refused_same : {A : Type 0} {m n : ℕ} → ◌≡◌ {A = Answer A} (refused m) (refused n) → m ≡ n
refused_same e = cc

-- ---- tests

-- no test of a list applies
abbrev pub Passed : List Test → Type 0
Passed [] = Unit {0}
Passed ((n when b) ∷ ts) = (b ≡ false) × Passed ts

-- where no test applies, the call gives its value
pub gives : {A : Type 0} (ts : List Test) (a : A) → Passed ts → given a ≡ in_order ts a
gives [] a p = refl
gives ((n when true) ∷ ts) a p = clash refl p.0
gives ((n when false) ∷ ts) a p = gives ts a p.1

-- what a call gives is its value, and every test was passed
pub passed : {A : Type 0} (ts : List Test) (a b : A) → given b ≡ in_order ts a → Passed ts × (a ≡ b)
passed [] a b e = (tt, given_same (sym e))
passed ((n when true) ∷ ts) a b e = given≢refused e
passed ((n when false) ∷ ts) a b e = let r = passed ts a b e in ((refl, r.0), r.1)

-- a refusal is by the first test that applies
pub refuses : {A : Type 0} (ts : List Test) (a : A) (n : ℕ) → First n ts → refused n ≡ in_order ts a
refuses [] a n f = absurd f
refuses ((m when true) ∷ ts) a n (inl f) = ap refused f.1
refuses ((m when true) ∷ ts) a n (inr f) = clash refl f.0
refuses ((m when false) ∷ ts) a n (inl f) = clash f.0 refl
refuses ((m when false) ∷ ts) a n (inr f) = refuses ts a n f.1

pub first : {A : Type 0} (ts : List Test) (a : A) (n : ℕ) → refused n ≡ in_order ts a → First n ts
first [] a n e = given≢refused (sym e)
first ((m when true) ∷ ts) a n e = inl (refl, refused_same e)
first ((m when false) ∷ ts) a n e = inr (refl, first ts a n e)

-- ---- a call whose tests begin with those of another that it makes

-- is refused where that one is, by the same number
pub same_refusal : {A B : Type 0} (ts us : List Test) (a : A) (b : B) (n : ℕ) → refused n ≡ in_order ts a → refused n ≡ in_order (ts ++ us) b
same_refusal [] us a b n e = given≢refused (sym e)
same_refusal ((m when true) ∷ ts) us a b n e = ap refused (refused_same e)
same_refusal ((m when false) ∷ ts) us a b n e = same_refusal ts us a b n e

-- and otherwise answers by the tests that are left
pub tests_left : {A B : Type 0} (ts us : List Test) (a c : A) (b : B) → given c ≡ in_order ts a → in_order us b ≡ in_order (ts ++ us) b
tests_left [] us a c b e = refl
tests_left ((m when true) ∷ ts) us a c b e = given≢refused e
tests_left ((m when false) ∷ ts) us a c b e = tests_left ts us a c b e

-- where some tests were passed, those after them decide
pub passed_on : {A : Type 0} (ts us : List Test) (a : A) → Passed ts → in_order us a ≡ in_order (ts ++ us) a
passed_on ts us a p = tests_left ts us a a a (gives ts a p)

-- ---- slices that are lent

-- a refused call leaves them
pub lent_refused : {A S : Type 0} (answer : Answer A) (before after : S) (n : ℕ) → refused n ≡ answer → (refused n, before) ≡ lending answer before after
lent_refused (given a) before after n e = given≢refused (sym e)
lent_refused (refused m) before after n e = ap (λ (i : ℕ). (refused i, before)) (refused_same e)

-- one that is not writes them
pub lent_given : {A S : Type 0} (answer : Answer A) (before after : S) (a : A) → given a ≡ answer → (given a, after) ≡ lending answer before after
lent_given {A} (given b) before after a e = ap {A = A} (λ b. (given b, after)) (given_same e)
lent_given (refused n) before after a e = given≢refused e
