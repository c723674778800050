-- `go_round` meets its contract: the steps are those inside the octants and those over the edges. Assumes nothing.
use mathlib.Core.Logic.{inl, inr}
use Rattle.flood.proofs.Turns.{turn_join}
use Rattle.flood.proofs.go_round.Goals as goal

pub returns : goal.returns
returns c =
    let a = c.args in
    turn_join (λ s t i j m. inl m) (λ s t i j m. inr m) (λ s t i j m. m) c.sweep-inside.ensures (c.reach_over-over.ensures a.opened.now.down _)
