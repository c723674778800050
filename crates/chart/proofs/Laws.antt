-- What follows from the definitions of charts and their readings. Assumes nothing.
use Prim.Native.Nat.{ℕ}
use mathlib.Core.Path.{◌≡◌, refl, sym, ap, ◌∙◌}
use mathlib.Core.Bool.{Bool, true, false, ◌||◌, not, cond}
use mathlib.Core.List.{List}
use mathlib.Core.Logic.{◌⊎◌, inl, inr, ◌↔◌}
use native.Mathlib.Omega.{arith}
use borrow.Author.Tests.{ltb-true, ltb-false, eqb-true, eqb-false, lt-ltb, le-ltb, ne_eqb}
use lib.Dec.{ltb, eqb}
use lib.Ieee as Ieee
use lib.Ieee.{Float, nan, inf}
use Rattle.std.specs.Ordering.{is_some_and, is_le, partial_le, float_partial_cmp}
use Rattle.std.specs.declared.cmp.Ordering.TheVariants.{Less, Equal, Greater}
use Rattle.std.specs.declared.option.Option.TheVariants.{None, Some}
use Rattle.chart.specs.Chart.{in_range, Reading, fresh, carried, gap, max_days, reading_of, temperature_at, age_at, reading_at, Fresh, Carried, Gap}

-- ---- the range

infinity : (s : Bool) → in_range (inf s) ≡ false
unfolding in_range Ieee.le
infinity true = refl
infinity false = refl

-- a range of floats asks whether its bounds are at most and at least a number, as `le` does
at_most : (a b c : Bool) → is_some_and is_le (cond a (Some Less) (cond b (Some Equal) (cond c (Some Greater) None))) ≡ (a || b)
at_most true b c = refl
at_most false true c = refl
at_most false false true = refl
at_most false false false = refl

pub compared : (x y : Float) → partial_le float_partial_cmp x y ≡ Ieee.le x y
unfolding Ieee.le
compared x y = at_most (Ieee.lt x y) (Ieee.eq x y) (Ieee.lt y x)

-- what is no number is not in range, and neither infinity is
pub not_a_number : (in_range nan ≡ false) × ((s : Bool) → in_range (inf s) ≡ false)
unfolding in_range Ieee.le
not_a_number = (refl, infinity)

-- ---- the three readings are different

pub gap≢fresh : {A : Type 0} {t : Float} → gap ≡ fresh t → A
gap≢fresh e = absurd (cc)

pub gap≢carried : {A : Type 0} {t : Float} {n : ℕ} → gap ≡ carried t n → A
gap≢carried e = absurd (cc)

pub fresh≢carried : {A : Type 0} {t u : Float} {n : ℕ} → fresh t ≡ carried u n → A
fresh≢carried e = absurd (cc)

pub fresh_same : {t u : Float} → fresh t ≡ fresh u → t ≡ u
fresh_same e = cc

carried_same : {t u : Float} {m n : ℕ} → carried t m ≡ carried u n → (t ≡ u) × (m ≡ n)
carried_same e = (cc, cc)

-- ---- what a temperature and an age read

-- by three tests: the age is above 30, the temperature is in range, the age is 0
abbrev chosen : Bool → Bool → Bool → Float → ℕ → Reading
chosen old inside new t age = cond (old || not inside) gap (cond new (fresh t) (carried t age))

of_fresh : (old inside new : Bool) (t u : Float) (age : ℕ) → chosen old inside new t age ≡ fresh u →
    (old ≡ false) × (inside ≡ true) × (new ≡ true) × (t ≡ u)
of_fresh true inside new t u age e = gap≢fresh e
of_fresh false false new t u age e = gap≢fresh e
of_fresh false true true t u age e = (refl, refl, refl, fresh_same e)
of_fresh false true false t u age e = fresh≢carried (sym e)

of_carried : (old inside new : Bool) (t u : Float) (age d : ℕ) → chosen old inside new t age ≡ carried u d →
    (old ≡ false) × (inside ≡ true) × (new ≡ false) × (t ≡ u) × (age ≡ d)
of_carried true inside new t u age d e = gap≢carried e
of_carried false false new t u age d e = gap≢carried e
of_carried false true true t u age d e = fresh≢carried e
of_carried false true false t u age d e = (refl, refl, refl, (carried_same e).0, (carried_same e).1)

of_gap : (old inside new : Bool) (t : Float) (age : ℕ) → chosen old inside new t age ≡ gap → (old ≡ true) ⊎ (inside ≡ false)
of_gap true inside new t age e = inl refl
of_gap false false new t age e = inr refl
of_gap false true true t age e = gap≢fresh (sym e)
of_gap false true false t age e = gap≢carried (sym e)

pub reads_fresh : (t : Float) (age : ℕ) (u : Float) → reading_of t age ≡ fresh u → Fresh t age u
unfolding reading_of
reads_fresh t age u e =
    let r = of_fresh (ltb max_days age) (in_range t) (eqb age 0) t u age e in
    (eqb-true age 0 r.2, r.3, ap in_range (sym r.3) ∙ r.1)

pub fresh_reads : (t : Float) (age : ℕ) (u : Float) → Fresh t age u → reading_of t age ≡ fresh u
unfolding reading_of
fresh_reads t age u (a, e, i) = simp (a, e, i)

pub reads_carried : (t : Float) (age : ℕ) (u : Float) (d : ℕ) → reading_of t age ≡ carried u d → Carried t age u d
unfolding reading_of
reads_carried t age u d e =
    let r = of_carried (ltb max_days age) (in_range t) (eqb age 0) t u age d e in
    let few = ltb-false max_days age r.0 in
    let n : age ≡ 0 → ⊥ = eqb-false age 0 r.2 in
    let same = r.4 in
    (same, omega arith, omega arith, r.3, ap in_range (sym r.3) ∙ r.1)

pub carried_reads : (t : Float) (age : ℕ) (u : Float) (d : ℕ) → Carried t age u d → reading_of t age ≡ carried u d
unfolding reading_of
carried_reads t age u d (a, m, n, e, i) = simp (a, e, i, le-ltb max_days d n, ne_eqb d 0 (λ z. omega arith))

old_or_outside : (t : Float) (age : ℕ) → (ltb max_days age ≡ true) ⊎ (in_range t ≡ false) → Gap t age
old_or_outside t age (inl h) = inl (ltb-true max_days age h)
old_or_outside t age (inr h) = inr h

reads_gap : (t : Float) (age : ℕ) → reading_of t age ≡ gap → Gap t age
unfolding reading_of
reads_gap t age e = old_or_outside t age (of_gap (ltb max_days age) (in_range t) (eqb age 0) t age e)

outside_gap : (old new : Bool) (t : Float) (age : ℕ) → chosen old false new t age ≡ gap
outside_gap true new t age = refl
outside_gap false new t age = refl

gap_reads : (t : Float) (age : ℕ) → Gap t age → reading_of t age ≡ gap
unfolding reading_of
gap_reads t age (inl h) = simp (lt-ltb max_days age h)
gap_reads t age (inr h) = rw h (outside_gap (ltb max_days age) (eqb age 0) t age)

-- ---- what a cell of a chart reads

-- a cell reads fresh with u exactly when its age is 0 and its temperature, in range, is u
pub fresh_exactly : (temps : List Float) (ages : List ℕ) (c : ℕ) (u : Float) →
    (reading_at temps ages c ≡ fresh u) ↔ Fresh (temperature_at temps c) (age_at ages c) u
fresh_exactly temps ages c u = (reads_fresh (temperature_at temps c) (age_at ages c) u, fresh_reads (temperature_at temps c) (age_at ages c) u)

-- a cell reads carried with u and d days exactly when its age is d, 1 to 30, and its temperature, in range, is u
pub carried_exactly : (temps : List Float) (ages : List ℕ) (c : ℕ) (u : Float) (d : ℕ) →
    (reading_at temps ages c ≡ carried u d) ↔ Carried (temperature_at temps c) (age_at ages c) u d
carried_exactly temps ages c u d =
    (reads_carried (temperature_at temps c) (age_at ages c) u d, carried_reads (temperature_at temps c) (age_at ages c) u d)

-- a cell reads gap exactly when its age is above 30 or its temperature is not in range
pub gap_exactly : (temps : List Float) (ages : List ℕ) (c : ℕ) → (reading_at temps ages c ≡ gap) ↔ Gap (temperature_at temps c) (age_at ages c)
gap_exactly temps ages c = (reads_gap (temperature_at temps c) (age_at ages c), gap_reads (temperature_at temps c) (age_at ages c))
