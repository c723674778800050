-- The laws of joined seams that a caller cites: what a spot of a level has after joining, and that any other stays. Assumes nothing.
use Prim.Native.Nat.{ℕ, ◌<◌}
use mathlib.Core.Path.{◌≡◌, sym, ap, ◌∙◌}
use mathlib.Core.Bool.{Bool, true, false, ◌&&◌}
use native.Mathlib.Omega.{arith}
use Rattle.refusal.proofs.Tests.{both, parts}
use Rattle.corner.specs.Corner.{Point, corner, point_in, same_point}
use Rattle.corner.proofs.Common.{three, same_coordinates, same_point_refl}
use Rattle.walk.specs.Reach.{any_below}
use Rattle.walk.proofs.Reach.{any_in, any_out}
use Rattle.rows.specs.Rows.{spot_count, octant_at, row_at, col_at, inside}
use Rattle.rows.proofs.Spots.{inside_is, spot_fits, row_below, col_below}
use Rattle.seam.specs.Seam.{point_at, same_spot, joined}

-- two corners that the test finds to be the same are equal
pub same_corner : (k o t r o' t' r' : ℕ) → same_point (corner k o t r) (corner k o' t' r') ≡ true → corner k o t r ≡ corner k o' t' r'
unfolding corner point_in
same_corner k o t r o' t' r' e =
    let f = same_coordinates (corner k o t r) (corner k o' t' r') e in
    three (f 0 (omega arith)) (f 1 (omega arith)) (f 2 (omega arith))

-- a spot of level k after joining
joined_is : (k : ℕ) (P : ℕ → Bool) (i : ℕ) → inside k i ≡ true → joined k P i ≡ any_below spot_count (λ j. same_spot k i j && P j)
unfolding joined
joined_is k P i h = rw h

spot_out : (k i j : ℕ) → same_spot k i j ≡ true → (inside k j ≡ true) × (point_at k i ≡ point_at k j)
unfolding same_spot point_at
spot_out k i j e =
    let q = parts (inside k i) (inside k j && same_point (point_at k i) (point_at k j)) e in
    let s = parts (inside k j) (same_point (point_at k i) (point_at k j)) q.1 in
    (s.0, same_corner k (octant_at i) (row_at i) (col_at i) (octant_at j) (row_at j) (col_at j) s.1)

spot_in_lem : (k i j : ℕ) → inside k i ≡ true → inside k j ≡ true → point_at k i ≡ point_at k j → same_spot k i j ≡ true
unfolding same_spot
spot_in_lem k i j h l e =
    let s : same_point (point_at k i) (point_at k j) ≡ true = ap (λ (x : Point). same_point x (point_at k j)) e ∙ same_point_refl (point_at k j) in
    both (inside k i) (inside k j && same_point (point_at k i) (point_at k j)) h (both (inside k j) (same_point (point_at k i) (point_at k j)) l s)

pub joined_out : (k : ℕ) (P : ℕ → Bool) (i : ℕ) → inside k i ≡ true → joined k P i ≡ true → (j : ℕ) × (inside k j ≡ true) × (point_at k i ≡ point_at k j) × (P j ≡ true)
joined_out k P i h e =
    let w = any_out spot_count (λ j. same_spot k i j && P j) (sym (joined_is k P i h) ∙ e) in
    let p = parts (same_spot k i w.0) (P w.0) w.2 in
    let q = spot_out k i w.0 p.0 in
    (w.0, q.0, q.1, p.1)

pub joined_in : (k : ℕ) (P : ℕ → Bool) (i j : ℕ) → inside k i ≡ true → inside k j ≡ true → point_at k i ≡ point_at k j → P j ≡ true → joined k P i ≡ true
joined_in k P i j h l e p =
    let n = inside_is k j l in
    let b : j < spot_count = rw n.again at (spot_fits (octant_at j) (row_at j) (col_at j) n.octant (row_below j) (col_below j)) in
    joined_is k P i h ∙ any_in spot_count (λ j. same_spot k i j && P j) j b (both (same_spot k i j) (P j) (spot_in_lem k i j h l e) p)

pub joined_stays : (k : ℕ) (P : ℕ → Bool) (i : ℕ) → inside k i ≡ false → joined k P i ≡ P i
unfolding joined
joined_stays k P i e = rw e
