use Prim.Native.Nat.{ℕ, ◌<◌}
use mathlib.Core.Bool.{false}
use mathlib.Core.Path.{◌≡◌}
use Rattle.cell.specs.Cell.{place_of, number}
use Rattle.code.specs.Step.{step, leads_to}
use Rattle.step.proofs.find_code.Given as goal

abbrev pub invariant-loop-number : goal.invariant-loop-number
invariant-loop-number l =
    let k = l.from.level.k in
    (d : ℕ) → d < l.number → leads_to k (number k (place_of l.to.place)) (step k (place_of l.from.place) d) ≡ false
