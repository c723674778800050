-- `cell_at` meets its contract. Its tests are the definition's, in their order; past them the place is that of the position, and since that place
-- occurs `number_of` does not refuse it.
-- Assumes nothing.
use Prim.Native.Nat.{ℕ, ◌%◌, ◌≤◌}
use borrow.Author.Tests.{le-ltb}
use mathlib.Core.List.{[], ◌∷◌}
use mathlib.Core.Path.{◌≡◌, ap, sym, ◌∙◌}
use native.Mathlib.Omega.{arith}
use lib.IntN.{ℤ, nat_abs}
use Rattle.refusal.specs.Tests.{bad_level}
use Rattle.refusal.proofs.Answers.{Passed, gives}
use Rattle.cell.specs.Cell.{number_call, max_level}
use Rattle.cell.proofs.Answers.{given_level, given_number}
use Rattle.position.specs.Position.{q, from_west, octant, offset, triangle_at, place_at, bad_latitude, bad_longitude}
use Rattle.position.proofs.Laws.{place_at_occurs}
use Rattle.position.proofs.cell_at.Goals as goal
use Rattle.position.proofs.cell_at.Goals.{In_ok-level, Else-out}

-- the level was found to be within its bound
known : (c : In_ok-level) → (c.args.level ≤ max_level) × (c.args.level ≡ c.in_ok-level.level.k)
known c = given_level _ _ _ c.in_ok-level.ensures

-- past the tests none applies
past : (c : Else-out) →
    let a = c.args in
    Passed (bad_level max_level a.level ∷ bad_latitude a.latitude.0 ∷ bad_longitude a.longitude.0 ∷ [])
past c =
    let k = given_level _ _ _ c.in_ok-level.ensures in
    let north = le-ltb q (nat_abs c.args.latitude.0) (omega (arith, c.from_equator-p.ensures)) in
    (le-ltb _ _ k.0, (north, (sym c.longitude_out-out.ensures ∙ c.if-out.false, tt)))

-- the place of a position, by its octant, its distance from the equator and its longitude counted from the west
position : (k : ℕ) (y x : ℤ) (o p w : ℕ) → o ≡ octant y x → p ≡ nat_abs y → w ≡ from_west x → (o, triangle_at k p (w % q)) ≡ place_at k y x
unfolding place_at offset
position k y x o p w e f g = rw (e, f, g)

-- there the place asked for is that of the position, and it occurs, so its number is not refused
pub returns : goal.returns
returns c =
    let l = c.in_ok-level.level in
    let y = c.args.latitude.0 in
    let x = c.args.longitude.0 in
    let k = known (goal.at.returns c).In_ok-level in
    let at = position l.k y x _ _ _ c.octant_of-octant.ensures c.from_equator-p.ensures c.from_west-m.ensures in
    let passed : Passed (bad_level max_level l.k ∷ bad_latitude y ∷ bad_longitude x ∷ []) = (le-ltb _ _ l.bounded, (past (goal.at.returns c).Else-out).1) in
    rw k.1
    (c.number_of.ensures
    ∙ ap (number_call l.k) (c.place_at-place.ensures ∙ at)
    ∙ given_number l.k (place_at l.k y x) l.bounded (place_at_occurs l.k y x passed.1.0)
    ∙ gives (bad_level max_level l.k ∷ bad_latitude y ∷ bad_longitude x ∷ []) _ passed)
