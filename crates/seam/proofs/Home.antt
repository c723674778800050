-- One spot for each point: a set that has the same at both spots of every pair has at each spot what it has at the spot of its point. Assumes nothing.
use Prim.Native.Nat.{ℕ, zero, suc, ◌+◌, ◌*◌, ◌-◌, ◌/◌, ◌%◌, ◌^◌, ◌≤◌, ◌<◌}
use mathlib.Core.Path.{◌≡◌, refl, sym, ap, ◌∙◌}
use mathlib.Core.Bool.{Bool, true, false, cond}
use native.Mathlib.Omega.{arith}
use borrow.Author.Tests.{leb-true, leb-false, eqb-true, eqb-false}
use lib.Dec.{leb, eqb}
use lib.IntN.{ℤ, pos, negsuc, nat_abs}
use lib.Pow.{pow_pos}
use Rattle.corner.specs.Corner.{Point, coordinate, minus, equatorial, polar, point_in, corner}
use Rattle.corner.proofs.Octants.{octant-cases}
use Rattle.corner.proofs.Laws.{size_minus}
use Rattle.rows.specs.Rows.{spot}
use Rattle.code.specs.Step.{east}
use Rattle.seam.proofs.Groups.{meridian_corner}
use Rattle.seam.proofs.Closed.{Closed}

-- ---- the spot of a point

-- the quarter that two numbers lie in, without its east edge, and R there; 0 where both are 0
quarter : ℤ → ℤ → ℕ × ℕ
quarter (pos (suc x)) (pos y) = (0, y)
quarter (pos zero) (pos (suc y)) = (1, 0)
quarter (negsuc x) (pos (suc y)) = (1, suc x)
quarter (negsuc x) (pos zero) = (2, 0)
quarter (negsuc x) (negsuc y) = (2, suc y)
quarter (pos x) (negsuc y) = (3, x)
quarter (pos zero) (pos zero) = (0, 0)

-- the first octant of the hemisphere; the equator is in the north
half : ℤ → ℕ
half (pos z) = 0
half (negsuc z) = 4

pub home : Point → ℕ
home x =
    let q = quarter (coordinate x 0) (coordinate x 1) in
    spot (half (coordinate x 2) + q.0) (nat_abs (coordinate x 2)) q.1

-- ---- the spot of a point by its octant and its numbers

-- off the east edge
quarter_inner : (o l r : ℕ) → quarter (equatorial pos minus o (suc l) r).0 (equatorial pos minus o (suc l) r).1 ≡ (o % 4, r)
unfolding quarter
quarter_inner o l r = octant-cases pos minus (suc l) r (λ i q. quarter q.0 q.1 ≡ (i, r)) refl (one r) (two r) refl o
  where
    one : (r : ℕ) → quarter (minus r) (pos (suc l)) ≡ (1, r)
    one zero = refl
    one (suc r) = refl

    two : (r : ℕ) → quarter (negsuc l) (minus r) ≡ (2, r)
    two zero = refl
    two (suc r) = refl

-- at a pole
quarter_tip : (o : ℕ) → quarter (equatorial pos minus o 0 0).0 (equatorial pos minus o 0 0).1 ≡ (0, 0)
unfolding quarter
quarter_tip o = octant-cases pos minus 0 0 (λ i q. quarter q.0 q.1 ≡ (0, 0)) refl refl refl refl o

polar_size : (o t : ℕ) → nat_abs (polar o t) ≡ t
unfolding polar
polar_size o t = go (leb 4 o)
  where
    go : (b : Bool) → nat_abs (cond b (minus t) (pos t)) ≡ t
    go true = size_minus t
    go false = refl

-- the third number is 0 on the equator
half_equator : (o : ℕ) → half (polar o 0) ≡ 0
unfolding polar half
half_equator o = go (leb 4 o)
  where
    go : (b : Bool) → half (cond b (minus 0) (pos 0)) ≡ 0
    go true = refl
    go false = refl

-- and tells the hemisphere elsewhere
half_polar : (o t : ℕ) → o < 8 → half (polar o (suc t)) ≡ o / 4 * 4
unfolding polar half
half_polar o t h = go (leb 4 o) refl
  where
    go : (b : Bool) → leb 4 o ≡ b → half (cond b (minus (suc t)) (pos (suc t))) ≡ o / 4 * 4
    go true e = let d = leb-true 4 o e in omega arith
    go false e = let d = leb-false 4 o e in omega arith

-- the two together
home_of :
    (o l r t : ℕ) (q : ℕ × ℕ) (s : ℕ) → quarter (equatorial pos minus o l r).0 (equatorial pos minus o l r).1 ≡ q → half (polar o t) ≡ s
    → home (point_in o l r t) ≡ spot (s + q.0) t q.1
unfolding home point_in
home_of o l r t q s e d = rw (e, d, polar_size o t)

-- off the east edge: its own octant, on the equator that of the north
home_inner : (o l r t s : ℕ) → 0 < l → half (polar o t) ≡ s → home (point_in o l r t) ≡ spot (s + o % 4) t r
home_inner o zero r t s h d = absurd (omega arith)
home_inner o (suc l) r t s h d = home_of o (suc l) r t (o % 4, r) s (quarter_inner o l r) d

-- ---- closed sets

module _ (k : ℕ) (Q : ℕ → Bool) (c : Closed (2 ^ k) Q) where
  -- off the east edge
  closed_inner : (o t r : ℕ) → o < 8 → t + r < 2 ^ k → Q (spot o t r) ≡ Q (home (corner k o t r))
  unfolding corner
  closed_inner o zero r ho l =
      let z : 0 + o % 4 ≡ o % 4 = omega arith in
      c.equator o r ho (omega arith) ∙ ap Q (sym (rw z at (home_inner o (2 ^ k - 0 - r) r 0 0 (omega arith) (half_equator o))))
  closed_inner o (suc t) r ho l =
      let z : o / 4 * 4 + o % 4 ≡ o = omega arith in
      ap Q (sym (rw z at (home_inner o (2 ^ k - suc t - r) r (suc t) (o / 4 * 4) (omega arith) (half_polar o t ho))))

  -- on the east edge: off it in the octant to the east
  closed_east : (o t r : ℕ) → o < 8 → 0 < r → t + r ≡ 2 ^ k → Q (spot o t r) ≡ Q (home (corner k o t r))
  unfolding east
  closed_east o t r ho hr e =
      let z : 2 ^ k - t ≡ r = omega arith in
      rw z at (c.meridians o t ho (omega arith))
      ∙ closed_inner (east o) t 0 (omega arith) (omega arith)
      ∙ ap (λ (x : Point). Q (home x)) (sym (meridian_corner k o (east o) t r (omega arith) (omega arith) e))

  -- at a pole
  closed_tip : (o t : ℕ) → o < 8 → t ≡ 2 ^ k → Q (spot o t 0) ≡ Q (home (corner k o t 0))
  unfolding corner
  closed_tip o zero ho e = absurd (omega (arith, pow_pos k))
  closed_tip o (suc t) ho e =
      let z : 2 ^ k - suc t - 0 ≡ 0 = omega arith in
      let y : o / 4 * 4 + 0 ≡ o / 4 * 4 = omega arith in
      rw (sym e) at (c.poles o ho)
      ∙ ap Q (sym (rw z (rw y at (home_of o 0 0 (suc t) (0, 0) (o / 4 * 4) (quarter_tip o) (half_polar o t ho)))))

  -- the spot of the point at any spot
  pub home_closed : (o t r : ℕ) → o < 8 → t + r ≤ 2 ^ k → Q (spot o t r) ≡ Q (home (corner k o t r))
  home_closed o t r ho l = go (eqb (t + r) (2 ^ k)) refl r refl
    where
      go : (b : Bool) → eqb (t + r) (2 ^ k) ≡ b → (x : ℕ) → x ≡ r → Q (spot o t r) ≡ Q (home (corner k o t r))
      go false e x d = let n = eqb-false (t + r) (2 ^ k) e in closed_inner o t r ho (omega arith)
      go true e zero d = rw (sym d) (closed_tip o t ho (omega (arith, eqb-true (t + r) (2 ^ k) e)))
      go true e (suc x) d = closed_east o t r ho (omega arith) (eqb-true (t + r) (2 ^ k) e)
