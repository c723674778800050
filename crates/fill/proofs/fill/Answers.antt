-- `fill` meets its contract: of a call that its tests let pass what the search reached is complemented. Assumes nothing.
use Prim.Native.Nat.{ℕ}
use mathlib.Core.Path.{◌≡◌, ap}
use Rattle.refusal.specs.Answer.{given, in_order, done}
use Rattle.refusal.proofs.Answers.{passed, gives}
use Rattle.fill.specs.Fill.{fill_tests}
use Rattle.fill.proofs.Answers.{fill_done}
use Rattle.fill.proofs.fill.Goals as goal
use Rattle.fill.proofs.fill.Goals.{In_ok-outside}

-- past the tests none applies, and level and outside cell are those that were given
known : (c : In_ok-outside) →
    let a = c.args in
    let o = c.in_ok-outside.outside in
    (given done ≡ in_order (fill_tests a.level a.border.now a.outside a.out.now) done) × (a.level ≡ o.level.k) × (a.outside ≡ o.number)
known c =
    let a = c.args in
    let ts = fill_tests a.level a.border.now a.outside a.out.now in
    let p = passed ts (a.level, a.outside) _ c.in_ok-outside.ensures in
    (gives ts done p.0, ap (λ (w : ℕ × ℕ). w.0) p.1, ap (λ (w : ℕ × ℕ). w.1) p.1)

pub returns : goal.returns
returns c =
    let a = c.args in
    let o = c.in_ok-outside.outside in
    let k = known (goal.at.returns c).In_ok-outside in
    rw (k.1, k.2) (fill_done o.level.k a.border.now o.number a.out.now _ _ (rw (k.1, k.2) at k.0) c.reach_all.ensures c.complement.ensures)
