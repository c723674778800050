-- What the call answers: a centre is off the equator and off the poles, and the cell at a cell's centre is the cell. Laws of the call definitions,
-- over every level that they accept.
-- Assumes nothing.
use Prim.Native.Nat.{ℕ, ◌*◌, ◌^◌, ◌≤◌, ◌<◌}
use mathlib.Core.Bool.{false}
use mathlib.Core.Path.{◌≡◌, sym, ap, ◌∙◌}
use native.Mathlib.Omega.{arith}
use lib.IntN.{ℤ, nat_abs}
use lib.Pow.{pow_mono}
use borrow.Author.Tests.{le-ltb}
use Rattle.refusal.specs.Answer.{given}
use Rattle.cell.specs.Cell.{place, number, max_level, cells}
use Rattle.cell.proofs.Laws.{number_place}
use Rattle.cell.proofs.Answers.{accepted, accepts}
use Rattle.position.specs.Position.{q, longitude_out, place_at, cell_call}
use Rattle.position.proofs.Calls.{answers}
use Rattle.centre.specs.Centre.{centre, centre_call}
use Rattle.centre.proofs.Laws.{centre_latitude, centre_longitude, centre_return}

-- at every level that is not refused a row is at least six units of latitude
level_small : (k : ℕ) → k ≤ max_level → 6 * 2 ^ k ≤ q
level_small k h = omega (arith, pow_mono {i = k} {j = max_level} h)

-- a centre's latitude is neither 0 nor a pole
pub centre_off_equator : (k n : ℕ) (c : ℤ × ℤ) → centre_call k n ≡ given c → (1 ≤ nat_abs c.0) × (nat_abs c.0 < q)
centre_off_equator k n c e =
    let t = accepted k n (centre k (place k n)) c (sym e) in
    rw t.1 at (centre_latitude k (place k n) (level_small k t.0.level) t.0.occurs)

-- the cell at the centre that a call gives is the number that it was given
pub return_call : (k n : ℕ) (y x : ℤ) → centre_call k n ≡ given (y, x) → cell_call k y x ≡ given n
return_call k n y x e =
    let t = accepted k n (centre k (place k n)) (y, x) (sym e) in
    let g = t.0 in
    let hy = (centre_off_equator k n (y, x) e).1 in
    let hx : longitude_out x ≡ false = rw (ap (λ (c : ℤ × ℤ). c.1) t.1) at (centre_longitude k (place k n) g.occurs).0 in
    let r : place_at k y x ≡ place k n =
    ap (λ (c : ℤ × ℤ). place_at k c.0 c.1) (sym t.1) ∙ centre_return k (place k n) (level_small k g.level) g.occurs in
    answers k y x g.level (le-ltb q (nat_abs y) (omega arith)) hx ∙ ap given (ap (number k) r ∙ number_place k n)

-- and every number of a level that is not refused has a centre, and returns
pub centre_returns : (k n : ℕ) → k ≤ max_level → n < cells k → (c : ℤ × ℤ) × (centre_call k n ≡ given c) × (cell_call k c.0 c.1 ≡ given n)
centre_returns k n h l =
    let c = centre k (place k n) in
    let e = sym (accepts k n c h l) in
    (c, e, return_call k n c.0 c.1 e)
