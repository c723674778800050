-- The line of two counts, piece after piece: 64 bytes have room for it. Assumes nothing.
use Prim.Native.Nat.{ℕ}
use mathlib.Core.Path.{◌≡◌}
use mathlib.Core.List.{List, [], ◌∷◌, ◌++◌}
use native.Mathlib.Omega.{arith}
use lib.ListN.{length, take, length-append}
use Rattle.refusal.specs.Answer.{given}
use Rattle.io.specs.Counts.{IsPrefixLen}
use Rattle.text.specs.Text.{decimal, appended}
use Rattle.text.proofs.Laws.{written_none, written_more, written_counts, spelled_short}
use Rattle.ring_counter.specs.RingCounter.{line}

pub counts_line : (out o₁ o₂ o₃ o₄ : List ℕ) (a₁ a₂ a₃ a₄ p q : ℕ) → length out ≡ 64 →
    (o₁, a₁) ≡ appended out 0 (decimal p) → (o₂, a₂) ≡ appended o₁ a₁ (32 ∷ []) →
    (o₃, a₃) ≡ appended o₂ a₂ (decimal q) → (o₄, a₄) ≡ appended o₃ a₃ (10 ∷ []) →
    IsPrefixLen a₄ o₄ × (take a₄ o₄ ≡ line (given (p, q)))
counts_line out o₁ o₂ o₃ o₄ a₁ a₂ a₃ a₄ p q long e₁ e₂ e₃ e₄ =
    let lp = spelled_short 20 p in
    let lq = spelled_short 20 q in
    let w₁ = written_more 64 out o₁ [] (decimal p) 0 a₁ (omega arith) (written_none 64 out long) e₁ in
    let w₂ = written_more 64 o₁ o₂ (decimal p) (32 ∷ []) a₁ a₂ (omega arith) w₁ e₂ in
    let w₃ = written_more 64 o₂ o₃ (decimal p ++ (32 ∷ [])) (decimal q) a₂ a₃ (simp length-append (omega arith)) w₂ e₃ in
    let w₄ = written_more 64 o₃ o₄ (decimal p ++ (32 ∷ []) ++ decimal q) (10 ∷ []) a₃ a₄ (simp length-append (omega arith)) w₃ e₄ in
    (written_counts 64 o₄ a₄ _ w₄, w₄.front)
