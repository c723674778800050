-- Stored numbers: when one is refused, and by which number. Assumes nothing.
use Prim.Native.Nat.{ℕ, ◌+◌}
use mathlib.Core.Path.{◌≡◌, ap, ◌∙◌}
use mathlib.Core.List.{List}
use mathlib.Core.Logic.{◌⊎◌, inl, inr, ⊎_elim, ◌↔◌}
use lib.ListN.{drop}
use lib.Seq.{get_or-drop}
use Rattle.refusal.specs.Answer.{refused}
use Rattle.bitset.specs.Bits.{Bytes}
use Rattle.varint.specs.Varint.{read_call, EndsEarly, NotInForm}
use Rattle.varint.proofs.Refusals as numbers

module _ (bs : List ℕ) (at : ℕ) where
  pub ends_early : (read_call bs at ≡ refused 10) ↔ EndsEarly (drop at bs)
  ends_early = numbers.refused_10 bs at

  pub not_in_form : Bytes bs → (read_call bs at ≡ refused 11) ↔ NotInForm (drop at bs)
  not_in_form d = numbers.refused_11 bs at (λ i. rw (get_or-drop at bs i 0) (d (at + i)))

  -- a refusal by n, with n named
  by : (n m : ℕ) {B : Type 0} → n ≡ m → ((read_call bs at ≡ refused m) ↔ B) → read_call bs at ≡ refused n → (n ≡ m) × B
  by n m e f r = (e, f.0 (r ∙ ap refused e))

pub read_number : (bs : List ℕ) (at n : ℕ) → Bytes bs →
    (read_call bs at ≡ refused n) ↔ (((n ≡ 10) × EndsEarly (drop at bs)) ⊎ ((n ≡ 11) × NotInForm (drop at bs)))
read_number bs at n d = (
  (λ r. ⊎_elim
      (λ (e : n ≡ 10). inl (by bs at n 10 e (ends_early bs at) r))
      (λ (e : n ≡ 11). inr (by bs at n 11 e (not_in_form bs at d) r))
      (numbers.refused_by bs at n r)),
  (λ w. ⊎_elim
      (λ (p : (n ≡ 10) × EndsEarly (drop at bs)). rw p.0 ((ends_early bs at).1 p.1))
      (λ (p : (n ≡ 11) × NotInForm (drop at bs)). rw p.0 ((not_in_form bs at d).1 p.1))
      w),
)
