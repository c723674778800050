-- A centre by its formula (docs/RULES.md, 3). Assumes nothing.
use Prim.Native.Nat.{ℕ, ◌+◌, ◌*◌, ◌-◌, ◌/◌, ◌^◌, ◌<◌}
use mathlib.Core.Path.{◌≡◌, refl, sym, ap, subst, ◌∙◌}
use native.Mathlib.Nat.{div-mul-le_self, lt-div-mul-add, add-mul, mul-pos}
use native.Mathlib.Omega.{arith}
use borrow.Author.Tests.{lt-ltb, le-ltb}
use lib.IntN.{ℤ}
use lib.Pow.{pow_pos}
use Rattle.refusal.specs.Answer.{given}
use Rattle.cell.specs.Cell.{Triangle, up, down, row, col, place, place_call}
use Rattle.cell.proofs.Answers.{accepted, given_place}
use Rattle.position.specs.Position.{q}
use Rattle.centre.specs.Centre.{thirds, centre_p, centre_m, centre, centre_call}
use Rattle.centre.proofs.Laws.{centre_p_below}
use Rattle.demands.specs.Demand2.{WholePart, CentreIs}

-- a quotient is the whole part
whole : (x d : ℕ) → 0 < d → WholePart (x / d) x d
whole x d h = (div-mul-le_self x d, omega (arith, lt-div-mul-add {a = x} {b = d} h, add-mul (x / d) 1 d))

-- the centre of a place, with s and row and column taken out of it
module _ (k o : ℕ) (f : Triangle) (a b s : ℕ) (ra : row f ≡ a) (cb : col f ≡ b) (th : thirds f ≡ s) (below : centre_p k f < q) where
  p : ℕ
  p = centre_p k f

  m : ℕ
  m = centre_m k f

  p_is : WholePart p (q * (3 * a + s)) (3 * 2 ^ k)
  unfolding p centre_p
  p_is = rw (ra, th) (whole (q * (3 * a + s)) (3 * 2 ^ k) (omega (arith, pow_pos k)))

  m_is : WholePart m ((3 * b + s) * (q * q)) (3 * 2 ^ k * (q - p))
  unfolding p m centre_m
  m_is =
      rw (cb, th)
      (whole ((3 * b + s) * (q * q)) (3 * 2 ^ k * (q - centre_p k f)) (mul-pos {m = 3 * 2 ^ k} {n = q - centre_p k f} (omega (arith, pow_pos k)) (omega arith)))

  formula : CentreIs k o a b s (centre k (o, f)).0 (centre k (o, f)).1
  unfolding p m centre
  formula = record {
    p = p;
    m = m;
    p_is = p_is;
    m_is = m_is;
    north = λ h. rw (lt-ltb o 4 h);
    south = λ h. rw (le-ltb o 4 h);
    longitude = refl;
  }

-- by the two calls
called : (k n o : ℕ) (f : Triangle) (a b s : ℕ) (y x : ℤ) → row f ≡ a → col f ≡ b → thirds f ≡ s →
    place_call k n ≡ given (o, f) → centre_call k n ≡ given (y, x) → CentreIs k o a b s y x
called k n o f a b s y x ra cb th e g =
    let t = accepted k n (centre k (place k n)) (y, x) (sym g) in
    let at = given_place k n (o, f) (sym e) in
    let c : centre k (o, f) ≡ (y, x) = ap (centre k) (sym at.at) ∙ t.1 in
    subst (λ (c : ℤ × ℤ). CentreIs k o a b s c.0 c.1) c (formula k o f a b s ra cb th (centre_p_below k f at.occurs.1))

pub centre_up : (k n o a b : ℕ) (y x : ℤ) → place_call k n ≡ given (o, up a b) → centre_call k n ≡ given (y, x) → CentreIs k o a b 1 y x
unfolding row col thirds
centre_up k n o a b y x = called k n o (up a b) a b 1 y x refl refl refl

pub centre_down : (k n o a b : ℕ) (y x : ℤ) → place_call k n ≡ given (o, down a b) → centre_call k n ≡ given (y, x) → CentreIs k o a b 2 y x
unfolding row col thirds
centre_down k n o a b y x = called k n o (down a b) a b 2 y x refl refl refl
