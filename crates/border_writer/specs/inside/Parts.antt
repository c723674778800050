-- What the parts of writing a border claim.
use Rattle.std.specs.Prelude.{ℕ, List, [], ◌∷◌, ◌++◌, ltb, length, drop}
use Rattle.refusal.specs.Answer.{Answer, ◌when◌, in_order, lending}
use Rattle.border.specs.Stored.{stored}

-- what is left to be answered once codes were found
abbrev pub write_on : ℕ → ℕ → List ℕ → List ℕ → Answer ℕ × List ℕ
write_on k start codes out =
    let bytes = stored k start codes in
    lending (in_order ((5 when ltb (length out) (length bytes)) ∷ []) (length bytes)) out (bytes ++ drop (length bytes) out)
