-- The numbers of the refusals (docs/RULES.md, 9), and what the code's answer says by them.
use Rattle.std.specs.Prelude.{ℕ, Result, Ok, Err}
use Rattle.refusal.specs.Answer.{Answer, given, refused, done}
use Rattle.refusal.specs.declared.Refusal.{Refusal}
use Rattle.refusal.specs.declared.Refusal.TheVariants as why

abbrev pub number_of : Refusal → ℕ
number_of why.Level = 1
number_of why.Latitude = 2
number_of why.Longitude = 3
number_of why.Cell = 4
number_of why.Length = 5
number_of why.Count = 6
number_of why.Step = 7
number_of why.Outside = 8
number_of why.Codes = 9
number_of why.Short = 10
number_of why.Form = 11
number_of why.Rest = 12

-- a call's answer: its value, read by `meaning`, or the number of its refusal
abbrev pub said_as : {A B : Type 0} → (A → B) → Result A Refusal → Answer B
said_as meaning (Ok a) = given (meaning a)
said_as meaning (Err r) = refused (number_of r)

-- the same where the value is what the code has
abbrev pub said : {A : Type 0} → Result A Refusal → Answer A
said r = said_as (λ a. a) r

-- and where a call has no value to give beyond its work
abbrev pub said_done : {A : Type 0} → Result A Refusal → Answer (Unit {0})
said_done r = said_as (λ a. done) r
