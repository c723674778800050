-- The order of temperatures in range, by the comparisons of floats. Assumes nothing.
use Prim.Native.Nat.{ℕ, ◌+◌, ◌*◌, ◌≤◌, ◌<◌}
use mathlib.Core.Path.{◌≡◌, refl}
use mathlib.Core.Bool.{Bool, true, false, ◌||◌, cond}
use mathlib.Core.Logic.{⊎_elim}
use native.Mathlib.Nat.{add-mul, mul_assoc, mul_comm, mul-le-mul_right, le_of_mul-le-mul_right}
use native.Mathlib.Omega.{arith}
use borrow.Author.Tests.{ltb-true, ltb-false, eqb-true, eq-eqb}
use lib.Dec.{ltb, eqb}
use lib.Ieee as Ieee
use lib.Ieee.{Float, nan, inf, fin, up, down, below, level}
use lib.Ieee.Positive.{den, den_pos}
use Rattle.refusal.proofs.Tests.{clash, both, parts, left, cases}
use Rattle.chart.specs.Chart.{in_range}
use Rattle.chart.proofs.Laws.{not_a_number}

-- ---- a finite value is (plus − minus) / den, and one of plus and minus is 0

abbrev plus : Float → ℕ
plus nan = 0
plus (inf s) = 0
plus (fin s m e) = cond s 0 (m * up e)

abbrev minus : Float → ℕ
minus nan = 0
minus (inf s) = 0
minus (fin s m e) = cond s (m * up e) 0

-- x is at most y, multiplied out
AtMost : Float → Float → Type 0
AtMost x y = plus x * den y + minus y * den x ≤ plus y * den x + minus x * den y

through : (x₁ x₀ y₁ y₀ z₁ z₀ p q r : ℕ) → 0 < q →
    x₁ * q + y₀ * p ≤ y₁ * p + x₀ * q → y₁ * r + z₀ * q ≤ z₁ * q + y₀ * r → x₁ * r + z₀ * p ≤ z₁ * p + x₀ * r
through x₁ x₀ y₁ y₀ z₁ z₀ p q r Q h k =
    let a = simp (add-mul, mul_assoc) at (mul-le-mul_right r h) in
    let b = simp (add-mul, mul_assoc, mul_comm) at (mul-le-mul_right p k) in
    le_of_mul-le-mul_right (simp (add-mul, mul_assoc, mul_comm) (omega arith)) Q

at_most_through : (x y z : Float) → AtMost x y → AtMost y z → AtMost x z
unfolding AtMost
at_most_through x y z h k = through (plus x) (minus x) (plus y) (minus y) (plus z) (minus z) (den x) (den y) (den z) (den_pos y) h k

-- ---- what each comparison of two finite values says, by their signs and sizes, a / p and b / q

abbrev Signed : Bool → ℕ → ℕ → Bool → ℕ → ℕ → Type 0
Signed s a p t b q = cond s 0 a * q + cond t b 0 * p ≤ cond t 0 b * p + cond s a 0 * q

-- a test that says less or another thing, where the other says no more than at most
less_or : (a b : ℕ) (other : Bool) → (other ≡ true → a ≤ b) → (ltb a b || other) ≡ true → a ≤ b
less_or a b other f e = ⊎_elim (λ l. omega (arith, ltb-true a b l)) f (cases (ltb a b) other e)

or_else : (a b : Bool) → (a ≡ false → b ≡ true) → (a || b) ≡ true
or_else true b f = refl
or_else false b f = f refl

said_at_most : (s t : Bool) (a p b q : ℕ) → (below s (a * q) t (b * p) || level s (a * q) t (b * p)) ≡ true → Signed s a p t b q
said_at_most false false a p b q e =
    omega (arith, less_or (a * q) (b * p) _ (λ l. omega (arith, eqb-true (a * q) (b * p) (parts (eqb (a * q) (b * p)) true l).0)) e)
said_at_most false true a p b q e =
    let r = parts (eqb (a * q) (b * p)) (eqb (a * q) 0) e in
    omega (arith, eqb-true (a * q) (b * p) r.0, eqb-true (a * q) 0 r.1)
said_at_most true false a p b q e = omega arith
said_at_most true true a p b q e =
    omega (arith, less_or (b * p) (a * q) _ (λ l. omega (arith, eqb-true (a * q) (b * p) (parts (eqb (a * q) (b * p)) true l).0)) e)

at_most_said : (s t : Bool) (a p b q : ℕ) → Signed s a p t b q → (below s (a * q) t (b * p) || level s (a * q) t (b * p)) ≡ true
at_most_said false false a p b q h = or_else (ltb (a * q) (b * p)) _
    (λ l. both (eqb (a * q) (b * p)) true (eq-eqb (a * q) (b * p) (omega (arith, ltb-false (a * q) (b * p) l))) refl)
at_most_said false true a p b q h =
    both (eqb (a * q) (b * p)) (eqb (a * q) 0) (eq-eqb (a * q) (b * p) (omega arith)) (eq-eqb (a * q) 0 (omega arith))
at_most_said true false a p b q h = or_else (ltb 0 (a * q + b * p)) _
    (λ l.
    let z = ltb-false 0 (a * q + b * p) l in
    both (eqb (a * q) (b * p)) (eqb (a * q) 0) (eq-eqb (a * q) (b * p) (omega arith)) (eq-eqb (a * q) 0 (omega arith)))
at_most_said true true a p b q h = or_else (ltb (b * p) (a * q)) _
    (λ l. both (eqb (a * q) (b * p)) true (eq-eqb (a * q) (b * p) (omega (arith, ltb-false (b * p) (a * q) l))) refl)

said_not_below : (s t : Bool) (a p b q : ℕ) → below s (a * q) t (b * p) ≡ false → Signed t b q s a p
said_not_below false false a p b q e = omega (arith, ltb-false (a * q) (b * p) e)
said_not_below false true a p b q e = omega arith
said_not_below true false a p b q e = omega (arith, ltb-false 0 (a * q + b * p) e)
said_not_below true true a p b q e = omega (arith, ltb-false (b * p) (a * q) e)

said_below : (s t : Bool) (a p b q : ℕ) → below s (a * q) t (b * p) ≡ true → Signed t b q s a p → ⊥
said_below false false a p b q e h = omega (arith, ltb-true (a * q) (b * p) e)
said_below false true a p b q e h = clash e refl
said_below true false a p b q e h = omega (arith, ltb-true 0 (a * q + b * p) e)
said_below true true a p b q e h = omega (arith, ltb-true (b * p) (a * q) e)

-- ---- temperatures in range

-- what the comparisons of two of them say
record Compared (x y : Float) : Type 0 where
  at_most : Ieee.le x y ≡ true → AtMost x y
  said : AtMost x y → Ieee.le x y ≡ true
  less : Ieee.lt x y ≡ true → AtMost y x → ⊥
  not_less : Ieee.lt x y ≡ false → AtMost y x

compared : (x y : Float) → in_range x ≡ true → in_range y ≡ true → Compared x y
unfolding AtMost Ieee.le
compared nan y i j = clash i not_a_number.0
compared (inf s) y i j = clash i (not_a_number.1 s)
compared (fin s m e) nan i j = clash j not_a_number.0
compared (fin s m e) (inf t) i j = clash j (not_a_number.1 t)
compared (fin s m e) (fin t n d) i j = record {
  at_most = said_at_most s t (m * up e) (down e) (n * up d) (down d);
  said = at_most_said s t (m * up e) (down e) (n * up d) (down d);
  less = said_below s t (m * up e) (down e) (n * up d) (down d);
  not_less = said_not_below s t (m * up e) (down e) (n * up d) (down d);
}

not_false_true : (b : Bool) → (b ≡ false → ⊥) → b ≡ true
not_false_true true f = refl
not_false_true false f = absurd (f refl)

-- an order of temperatures in range, by two comparisons: ahead of another, and not behind it
pub record Order (ahead notBehind : Float → Float → Bool) : Type 0 where
  pub same : (x : Float) → in_range x ≡ true → notBehind x x ≡ true
  pub won : (x y : Float) → in_range x ≡ true → in_range y ≡ true → ahead x y ≡ true → notBehind x y ≡ true
  pub lost : (x y : Float) → in_range x ≡ true → in_range y ≡ true → ahead x y ≡ false → notBehind y x ≡ true
  pub on : (x y z : Float) → in_range x ≡ true → in_range y ≡ true → in_range z ≡ true →
      notBehind x y ≡ true → notBehind y z ≡ true → notBehind x z ≡ true
  pub ahead_on : (x y z : Float) → in_range x ≡ true → in_range y ≡ true → in_range z ≡ true →
      ahead x y ≡ true → notBehind y z ≡ true → ahead x z ≡ true

-- colder is ahead
pub by_cold : Order Ieee.lt Ieee.le
unfolding AtMost Ieee.le
by_cold = record {
  same = λ x i. (compared x x i i).said (omega arith);
  won = λ x y i j e. left (Ieee.lt x y) (Ieee.eq x y) e;
  lost = λ x y i j e. (compared y x j i).said ((compared x y i j).not_less e);
  on = λ x y z i j k e f. (compared x z i k).said (at_most_through x y z ((compared x y i j).at_most e) ((compared y z j k).at_most f));
  ahead_on = λ x y z i j k e f.
      not_false_true (Ieee.lt x z) (λ l. (compared x y i j).less e (at_most_through y z x ((compared y z j k).at_most f) ((compared x z i k).not_less l)));
}

-- warmer is ahead
pub by_warmth : Order (λ x y. Ieee.lt y x) (λ x y. Ieee.le y x)
unfolding AtMost Ieee.le
by_warmth = record {
  same = by_cold.same;
  won = λ x y i j e. by_cold.won y x j i e;
  lost = λ x y i j e. by_cold.lost y x j i e;
  on = λ x y z i j k e f. by_cold.on z y x k j i f e;
  ahead_on = λ x y z i j k e f.
      not_false_true (Ieee.lt z x) (λ l. (compared y x j i).less e (at_most_through x z y ((compared z x k i).not_less l) ((compared z y k j).at_most f)));
}
