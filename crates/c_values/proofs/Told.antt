-- What crosses to C for an answer that the code gave: `said` is what its enum says. Assumes nothing.
use Prim.Native.Nat.{ℕ}
use mathlib.Core.Path.{◌≡◌, sym, ap, ◌∙◌}
use Rattle.refusal.specs.Answer.{Answer, given, refused}
use Rattle.c_values.specs.Values.{told, told_lent, returned, in_c}

-- a call with no slices, whose value stands in C's form
module _ {E A B : Type 0} (said : E → Answer A) (f : A → B) (e e' : E) (a : Answer A) (ensures : said e ≡ a) (known : e ≡ e') where
  says : a ≡ said e'
  says = sym ensures ∙ ap said known

  pub form_told : (v : A) (before : B) → said e' ≡ given v → (0, f v) ≡ told (in_c f a) before
  form_told v before s = sym (ap (λ (x : Answer A). told (in_c f x) before) (says ∙ s))

  pub form_refused : (n : ℕ) (before : B) → said e' ≡ refused n → (n, before) ≡ told (in_c f a) before
  form_refused n before s = sym (ap (λ (x : Answer A). told (in_c f x) before) (says ∙ s))

-- and as it is
module _ {E A : Type 0} (said : E → Answer A) (e e' : E) (a : Answer A) (ensures : said e ≡ a) (known : e ≡ e') where
  pub value_told : (v before : A) → said e' ≡ given v → (0, v) ≡ told a before
  value_told v before s = sym (ap (λ (x : Answer A). told x before) (says said (λ x. x) e e' a ensures known ∙ s))

  pub value_refused : (n : ℕ) (before : A) → said e' ≡ refused n → (n, before) ≡ told a before
  value_refused n before s = sym (ap (λ (x : Answer A). told x before) (says said (λ x. x) e e' a ensures known ∙ s))

-- a call that is lent slices
module _ {E A S : Type 0} (said : E → Answer A) (e e' : E) (lent : S) (p : Answer A × S) (ensures : (said e, lent) ≡ p) (known : e ≡ e') where
  holds : p ≡ (said e', lent)
  holds = sym ensures ∙ ap (λ (x : E). (said x, lent)) known

  pub lent_told : (v before : A) → said e' ≡ given v → ((0, v), lent) ≡ told_lent p before
  lent_told v before s = sym (ap (λ (x : Answer A × S). told_lent x before) (holds ∙ ap (λ (x : Answer A). (x, lent)) s))

  pub lent_refused : (n : ℕ) (before : A) → said e' ≡ refused n → ((n, before), lent) ≡ told_lent p before
  lent_refused n before s = sym (ap (λ (x : Answer A × S). told_lent x before) (holds ∙ ap (λ (x : Answer A). (x, lent)) s))

  pub work_done : (v : A) → said e' ≡ given v → (0, lent) ≡ returned p
  work_done v s = sym (ap (λ (x : Answer A × S). returned x) (holds ∙ ap (λ (x : Answer A). (x, lent)) s))

  pub work_refused : (n : ℕ) → said e' ≡ refused n → (n, lent) ≡ returned p
  work_refused n s = sym (ap (λ (x : Answer A × S). returned x) (holds ∙ ap (λ (x : Answer A). (x, lent)) s))
