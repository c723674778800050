-- `is_padded` meets its contract: what lies after the codes is below three codes more. Assumes nothing.
use Prim.Native.Nat.{◌^◌, ◌<◌}
use mathlib.Core.Path.{sym, ◌∙◌}
use native.Mathlib.Omega.{arith}
use borrow.Author.Tests.{eqb-true}
use Rattle.border.specs.Stored.{value_of, code_bytes}
use Rattle.border.proofs.Digits.{value_below}
use Rattle.border_reader.proofs.Bits.{padded}
use Rattle.border_reader.proofs.codes.is_padded.Goals as goal
use Rattle.border_reader.proofs.codes.is_padded.Goals.{After-code_at, then-code_at-eq0, else-code_at-eq0}

-- the number that the bytes say
said : (c : After-code_at) → value_of 256 c.args.bytes.now < 256 ^ code_bytes c.args.count
said c =
    let bs = c.args.bytes.now in
    rw c.requires.1 at (value_below 256 bs (λ i. omega (arith, c.type_inv.bytes i)))

pub returns-then-code_at-eq0-2 : goal.returns-then-code_at-eq0-2
returns-then-code_at-eq0-2 c = elim c.if-code_at-eq0.branch [
  | then-code_at-eq0 w ↦
      padded _ _ _ (said (goal.at.returns-then-code_at-eq0-2 c).After-code_at) (sym c.code_at.ensures ∙ w.if-code_at-eq0.true)
      (sym w.code_at-then-code_at-eq0.ensures ∙ eqb-true _ 0 (sym w.value-is ∙ c.if-code_at-eq0-2.true)) c.code_at-then-code_at-eq0-2.ensures
  | else-code_at-eq0 w ↦ absurd (w.if-code_at-eq0.false (eqb-true _ 0 (sym w.value-is ∙ c.if-code_at-eq0-2.true)))
]
