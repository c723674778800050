-- No border is refused for want of room in 4,097 places, so the cell lister never prints `refused 5`. Assumes nothing.
use Prim.Native.Nat.{ℕ, zero, suc, ◌^◌, ◌≤◌}
use mathlib.Core.Path.{◌≡◌, refl, sym, ◌∙◌}
use mathlib.Core.Bool.{Bool, true, false, not, cond}
use mathlib.Core.List.{List, [], ◌∷◌}
use mathlib.Core.Logic.{inl, inr}
use native.Mathlib.Omega.{arith}
use borrow.Author.Tests.{ltb-false, leb-true}
use lib.Dec.{leb, ltb, eqb}
use lib.ListN.{length, drop, replicate, length-replicate}
use Rattle.refusal.specs.Answer.{Answer, given, refused, Test, ◌when◌, in_order, First}
use Rattle.refusal.proofs.Answers.{first, given≢refused, refused_same}
use Rattle.refusal.proofs.Tests.{clash}
use Rattle.varint.specs.Varint.{more, valued, in_form, read_call, numeral}
use Rattle.border.specs.Border.{max_codes, value, after, bad_number, level_read, start_read, count_read, header, cells_read, read_tests, read_border}

-- a number is refused by 10 or 11
more_refused : (b n : ℕ) (a : Answer (ℕ × ℕ)) → more b a ≡ refused n → a ≡ refused n
more_refused b n (given v) e = given≢refused e
more_refused b n (refused m) e = e

valued_refused : (f : ℕ) (bs : List ℕ) (n : ℕ) → valued f bs ≡ refused n → 10 ≤ n
unfolding valued
valued_refused zero bs n e = omega (arith, refused_same e)
valued_refused (suc f) [] n e = omega (arith, refused_same e)
valued_refused (suc f) (b ∷ bs) n e = go (ltb b 128) (valued_refused f bs n) e
  where
    go : (t : Bool) → (valued f bs ≡ refused n → 10 ≤ n) → cond t (given (b, 1)) (more b (valued f bs)) ≡ refused n → 10 ≤ n
    go true g h = given≢refused h
    go false g h = g (more_refused b n (valued f bs) h)

form_refused : {A : Type 0} (s t : Bool) (a : A) (n : ℕ) → in_order ((11 when s) ∷ (11 when t) ∷ []) a ≡ refused n → 10 ≤ n
form_refused true t a n h = omega (arith, refused_same h)
form_refused false true a n h = omega (arith, refused_same h)
form_refused false false a n h = given≢refused h

number_refused : (bs : List ℕ) (at n : ℕ) → read_call bs at ≡ refused n → 10 ≤ n
number_refused bs at n = go (valued 5 (drop at bs)) refl
  where
    go : (a : Answer (ℕ × ℕ)) → valued 5 (drop at bs) ≡ a → in_form at a ≡ refused n → 10 ≤ n
    go (refused m) v e = valued_refused 5 (drop at bs) n (v ∙ e)
    go (given (w, k)) v e = form_refused (leb (2 ^ 32) w) (not (eqb k (length (numeral w)))) _ n e

-- so 5 is the number of a test after it, and of one after any test that has another number
past_number : (a : Answer (ℕ × ℕ)) (ts : List Test) → ((n : ℕ) → a ≡ refused n → 10 ≤ n) → First 5 (bad_number a ∷ ts) → First 5 ts
past_number (given v) ts h (inl f) = clash f.0 refl
past_number (given v) ts h (inr f) = f.1
past_number (refused n) ts h (inl f) = absurd (omega (arith, h n refl, f.1))
past_number (refused n) ts h (inr f) = f.1

past : (m : ℕ) (b : Bool) (ts : List Test) → (5 ≡ m → ⊥) → First 5 ((m when b) ∷ ts) → (b ≡ false) × First 5 ts
past m b ts h (inl f) = absurd (h f.1)
past m b ts h (inr f) = f

-- the last two tests: room, and steps
for_room : (b c : Bool) → First 5 ((5 when b) ∷ (7 when c) ∷ []) → b ≡ true
for_room b c (inl f) = f.0
for_room b c (inr f) = absurd (past 7 c [] (λ q. omega arith) f.1).1

enough : (bs out : List ℕ) → 4097 ≤ length out → (read_border bs out).0 ≡ refused 5 → ⊥
unfolding level_read start_read count_read
enough bs out room e =
    let ts = read_tests bs (length out) in
    let f₁ = past_number (level_read bs) (drop 1 ts) (number_refused bs 0) (first ts ((header bs).0, length (cells_read bs)) 5 (sym e)) in
    let f₂ = (past 1 _ (drop 2 ts) (λ q. omega arith) f₁).1 in
    let f₃ = past_number (start_read bs) (drop 3 ts) (number_refused bs (after (level_read bs))) f₂ in
    let f₄ = (past 4 _ (drop 4 ts) (λ q. omega arith) f₃).1 in
    let f₅ = past_number (count_read bs) (drop 5 ts) (number_refused bs (after (start_read bs))) f₄ in
    let f₆ = past 9 _ (drop 6 ts) (λ q. omega arith) f₅ in
    let f₇ = (past 10 _ (drop 7 ts) (λ q. omega arith) f₆.1).1 in
    let f₈ = (past 12 _ (drop 8 ts) (λ q. omega arith) f₇).1 in
    let f₉ = (past 12 _ (drop 9 ts) (λ q. omega arith) f₈).1 in
    let n = value (count_read bs) in
    omega (arith, leb-true (length out) n (for_room _ _ f₉), ltb-false max_codes n f₆.0)

pub no_room_refusal : (input : List ℕ) → (read_border input (replicate 4097 0)).0 ≡ refused 5 → ⊥
no_room_refusal input = enough input (replicate 4097 0) (rw length-replicate (omega arith))
