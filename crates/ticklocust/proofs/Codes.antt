-- A code that is above 7 is as good as any other that is. Assumes nothing.
use Prim.Native.Nat.{ℕ, ◌<◌}
use mathlib.Core.Path.{◌≡◌, sym, ap, ◌∙◌}
use mathlib.Core.List.{[], ◌∷◌}
use mathlib.Core.Logic.{◌⊎◌, inl, inr}
use mathlib.Core.Option.{Option}
use Rattle.refusal.specs.Answer.{in_order}
use Rattle.refusal.specs.Tests.{bad_level}
use Rattle.cell.specs.Cell.{Place, place, number, max_level, bad_cell}
use Rattle.code.specs.Step.{bad_step, found_or, step_call}
use Rattle.code.proofs.Laws.{past_seven}

pub same_step : (k n c d : ℕ) → (c ≡ d) ⊎ ((7 < c) × (7 < d)) → step_call k n c ≡ step_call k n d
same_step k n c d (inl e) = ap (step_call k n) e
same_step k n c d (inr (p, q)) =
    ap
    (λ (s : Option Place). in_order (bad_level max_level k ∷ bad_cell k n ∷ bad_step s ∷ []) (number k (found_or (place k n) s)))
    (past_seven k (place k n) c p ∙ sym (past_seven k (place k n) d q))
