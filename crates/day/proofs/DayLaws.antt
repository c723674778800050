-- What a cell reads after a day, and what the day's count is. Assumes nothing.
use Prim.Native.Nat.{ℕ, ◌+◌, ◌≤◌, ◌<◌}
use mathlib.Core.Path.{◌≡◌, refl, sym, ap, ap₂, ◌∙◌}
use mathlib.Core.Bool.{Bool, true, false, ◌&&◌, not}
use mathlib.Core.List.{List}
use mathlib.Core.Logic.{◌↔◌, ◌⊎◌, inl, inr, ⊎_elim}
use native.Mathlib.Omega.{arith}
use native.Mathlib.Nat.{le_trans}
use borrow.Author.Tests.{leb-true, leb-false, le-leb, lt-leb, not-true}
use lib.Dec.{leb}
use lib.Ieee.{Float, nan}
use Rattle.refusal.proofs.Tests.{clash, parts, both}
use Rattle.bitset.specs.Bits.{marked, size}
use Rattle.chart.specs.Chart.{in_range, fresh, carried, reading_of, temperature_at, age_at, gap, max_days, Gap, reading_at}
use Rattle.day.specs.Day.{nought, day_of, day_at, temperatures_after, ages_after, reads_after, is_fresh, summary_after}
use Rattle.chart.proofs.Laws.{gap≢fresh, gap≢carried, reads_fresh, fresh_reads, reads_carried, carried_reads, gap_exactly}
use Rattle.day.proofs.Days.{not_first, not_second, leaves, get_or-list_of, count_fresh}

-- the day has nothing new for cell c, since the mask covers it or its new temperature is not in range
abbrev pub NothingNew : List Float → List ℕ → ℕ → Type 0
NothingNew new clouds c = (marked clouds c ≡ true) ⊎ (in_range (temperature_at new c) ≡ false)

-- and cell c is carried to m days with t: its old temperature t is in range, and m is one more than its age and at most the limit
abbrev pub CarriedOn : ℕ → List Float → List ℕ → ℕ → Float → ℕ → Type 0
CarriedOn d temps ages c t m =
    (in_range (temperature_at temps c) ≡ true) × (temperature_at temps c ≡ t) × (age_at ages c + 1 ≡ m) × (m ≤ d)

-- or it can't be carried: it would be past the limit, or its old temperature is not in range
abbrev pub NotCarried : ℕ → List Float → List ℕ → ℕ → Type 0
NotCarried d temps ages c = (d < age_at ages c + 1) ⊎ (in_range (temperature_at temps c) ≡ false)

reads_left : (n d : ℕ) (new : List Float) (clouds : List ℕ) (temps : List Float) (ages : List ℕ) (c : ℕ) → c < n →
    reads_after n d new clouds temps ages c ≡ reading_of (day_at d new clouds temps ages c).0 (day_at d new clouds temps ages c).1
unfolding temperatures_after ages_after
reads_left n d new clouds temps ages c h =
    ap₂ reading_of (get_or-list_of nan n (λ c. (day_at d new clouds temps ages c).0) c h) (get_or-list_of 0 n (λ c. (day_at d new clouds temps ages c).1) c h)

-- ---- one cell

-- nothing new, by the test of `day_of`
nothing_new : (covered inside : Bool) → ((covered ≡ true) ⊎ (inside ≡ false)) ↔ ((not covered && inside) ≡ false)
nothing_new true inside = ((λ _. refl), (λ _. inl refl))
nothing_new false inside = ((λ w. ⊎_elim (λ (e : false ≡ true). clash e refl) (λ (e : inside ≡ false). e) w), (λ e. inr e))

-- a cell is carried on where the day has nothing new for it and it can be
left_carries : (a b : Bool) (new old : Float) (age : ℕ) (t : Float) (m : ℕ) → a ≡ false → b ≡ true →
    (in_range old ≡ true) × (old ≡ t) × (age + 1 ≡ m) × (m ≤ max_days) → reading_of (leaves a b new old age).0 (leaves a b new old age).1 ≡ carried t m
left_carries a b new old age t m p q (i, s, e, l) = rw (p, q) (carried_reads old (age + 1) t m (e, omega arith, l, s, ap in_range (sym s) ∙ i))

carried_day : (covered : Bool) (new old : Float) (age d : ℕ) (t : Float) (m : ℕ) → d ≤ max_days →
    ((covered ≡ true) ⊎ (in_range new ≡ false)) × ((in_range old ≡ true) × (old ≡ t) × (age + 1 ≡ m) × (m ≤ d)) →
    reading_of (day_of covered new old age d).0 (day_of covered new old age d).1 ≡ carried t m
unfolding day_of
carried_day covered new old age d t m l (w, (i, s, e, h)) =
    left_carries _ _ new old age t m
    ((nothing_new covered (in_range new)).0 w)
    (both (leb (age + 1) d) (in_range old) (le-leb (age + 1) d (omega arith)) i)
    (i, s, e, le_trans h l)

inside : (a b : Bool) (new old : Float) (age : ℕ) → (a ≡ true → in_range new ≡ true) → (leaves a b new old age).1 ≡ 0 →
    in_range (leaves a b new old age).0 ≡ true
inside true b new old age f e = f refl
inside false true new old age f e = absurd (omega arith)
inside false false new old age f e = absurd (omega arith)

-- a cell that a day leaves at age 0 has a temperature in range
pub fresh_inside : (covered : Bool) (new old : Float) (age d : ℕ) → (day_of covered new old age d).1 ≡ 0 → in_range (day_of covered new old age d).0 ≡ true
unfolding day_of
fresh_inside covered new old age d e =
    inside (not covered && in_range new) (leb (age + 1) d && in_range old) new old age (λ h. (parts (not covered) (in_range new) h).1) e

left_fresh : (a b : Bool) (new old : Float) (age : ℕ) (t : Float) → reading_of (leaves a b new old age).0 (leaves a b new old age).1 ≡ fresh t →
    (a ≡ true) × (new ≡ t)
left_fresh true b new old age t e = (refl, (reads_fresh new 0 t e).1)
left_fresh false true new old age t e = let z = (reads_fresh old (age + 1) t e).0 in absurd (omega arith)
left_fresh false false new old age t e = let z = (reads_fresh nought 255 t e).0 in absurd (omega arith)

left_carried : (a b : Bool) (new old : Float) (age : ℕ) (t : Float) (m : ℕ) →
    reading_of (leaves a b new old age).0 (leaves a b new old age).1 ≡ carried t m → (a ≡ false) × (b ≡ true) × (m ≡ age + 1) × (t ≡ old)
left_carried true b new old age t m e = let r = reads_carried new 0 t m e in absurd (omega (arith, r.0, r.1))
left_carried false true new old age t m e = let r = reads_carried old (age + 1) t m e in (refl, refl, sym r.0, sym r.3)
left_carried false false new old age t m e = let r = reads_carried nought 255 t m e in absurd (omega (arith, r.0, r.2))

day_fresh : (covered : Bool) (new old : Float) (age d : ℕ) (t : Float) →
    reading_of (day_of covered new old age d).0 (day_of covered new old age d).1 ≡ fresh t →
    (covered ≡ false) × (in_range new ≡ true) × (new ≡ t)
unfolding day_of
day_fresh covered new old age d t e =
    let r = left_fresh (not covered && in_range new) (leb (age + 1) d && in_range old) new old age t e in
    let p = parts (not covered) (in_range new) r.0 in
    (not-true covered p.0, p.1, r.1)

fresh_day : (covered : Bool) (new old : Float) (age d : ℕ) (t : Float) → (covered ≡ false) × (in_range new ≡ true) × (new ≡ t) →
    reading_of (day_of covered new old age d).0 (day_of covered new old age d).1 ≡ fresh t
unfolding day_of
fresh_day covered new old age d t (p, q, e) = rw (p, q) (fresh_reads new 0 t (refl, e, ap in_range (sym e) ∙ q))

-- what is neither taken nor carried is a gap, and nothing else is
left_nothing : (a b : Bool) (new old : Float) (age : ℕ) → (a ≡ true → in_range new ≡ true) → (b ≡ true → (age + 1 ≤ max_days) × (in_range old ≡ true)) →
    reading_of (leaves a b new old age).0 (leaves a b new old age).1 ≡ gap → (a ≡ false) × (b ≡ false)
left_nothing true b new old age f g e = gap≢fresh (sym e ∙ fresh_reads new 0 new (refl, refl, f refl))
left_nothing false true new old age f g e =
    gap≢carried (sym e ∙ carried_reads old (age + 1) old (age + 1) (refl, omega arith, (g refl).0, refl, (g refl).1))
left_nothing false false new old age f g e = (refl, refl)

-- one of two tests fails where they don't hold together
one_fails : (x y : Bool) → (x && y) ≡ false → (x ≡ false) ⊎ (y ≡ false)
one_fails true y e = inr e
one_fails false y e = inl refl

-- what can't be carried, by the test of `day_of`
not_carried : (old : Float) (age d : ℕ) → ((d < age + 1) ⊎ (in_range old ≡ false)) ↔ ((leb (age + 1) d && in_range old) ≡ false)
not_carried old age d = (
  (λ w. ⊎_elim
      (λ (h : d < age + 1). not_first (leb (age + 1) d) (in_range old) (lt-leb (age + 1) d h))
      (λ (h : in_range old ≡ false). not_second (leb (age + 1) d) (in_range old) h)
      w),
  (λ e. ⊎_elim
      (λ (h : leb (age + 1) d ≡ false). inl (leb-false (age + 1) d h))
      (λ (h : in_range old ≡ false). inr h)
      (one_fails (leb (age + 1) d) (in_range old) e)),
)

day_carried : (covered : Bool) (new old : Float) (age d : ℕ) (t : Float) (m : ℕ) → d ≤ max_days →
    (reading_of (day_of covered new old age d).0 (day_of covered new old age d).1 ≡ carried t m) ↔
    (((covered ≡ true) ⊎ (in_range new ≡ false)) × ((in_range old ≡ true) × (old ≡ t) × (age + 1 ≡ m) × (m ≤ d)))
unfolding day_of
day_carried covered new old age d t m l = (
  (λ e.
      let r = left_carried (not covered && in_range new) (leb (age + 1) d && in_range old) new old age t m e in
      let p = parts (leb (age + 1) d) (in_range old) r.1 in
      ((nothing_new covered (in_range new)).1 r.0, (p.1, sym r.3, sym r.2, omega (arith, r.2, leb-true (age + 1) d p.0)))),
  carried_day covered new old age d t m l,
)

left_gap : (a b : Bool) (new old : Float) (age : ℕ) → a ≡ false → b ≡ false → reading_of (leaves a b new old age).0 (leaves a b new old age).1 ≡ gap
unfolding reading_of
left_gap a b new old age p q = rw (p, q)

day_gap : (covered : Bool) (new old : Float) (age d : ℕ) → d ≤ max_days →
    (reading_of (day_of covered new old age d).0 (day_of covered new old age d).1 ≡ gap) ↔
    (((covered ≡ true) ⊎ (in_range new ≡ false)) × ((d < age + 1) ⊎ (in_range old ≡ false)))
unfolding day_of
day_gap covered new old age d l = (
  (λ e.
      let r = left_nothing (not covered && in_range new) (leb (age + 1) d && in_range old) new old age
      (λ h. (parts (not covered) (in_range new) h).1)
      (λ h.
      let p = parts (leb (age + 1) d) (in_range old) h in
      (le_trans (leb-true (age + 1) d p.0) l, p.1))
      e in
      ((nothing_new covered (in_range new)).1 r.0, (not_carried old age d).1 r.1)),
  (λ w. left_gap (not covered && in_range new) (leb (age + 1) d && in_range old) new old age
      ((nothing_new covered (in_range new)).0 w.0)
      ((not_carried old age d).0 w.1)),
)

left_older : (a b : Bool) (new old : Float) (age : ℕ) → age ≤ 255 → ((leaves a b new old age).1 ≡ 0) ⊎ (age ≤ (leaves a b new old age).1)
left_older true b new old age h = inl refl
left_older false true new old age h = inr (omega arith)
left_older false false new old age h = inr h

-- a cell that was a gap can't be carried: by its age or by its temperature
no_carrying : (old : Float) (age d : ℕ) → d ≤ max_days → Gap old age → (d < age + 1) ⊎ (in_range old ≡ false)
no_carrying old age d l (inl h) = inl (omega arith)
no_carrying old age d l (inr h) = inr h

-- a value out of range acts as cloud
pub out_of_range_covers : (covered : Bool) (new old : Float) (age d : ℕ) → in_range new ≡ false → day_of covered new old age d ≡ day_of true new old age d
unfolding day_of
out_of_range_covers covered new old age d e = rw (not_second (not covered) (in_range new) e)

-- ---- the chart that a day leaves, of n cells

-- a cell reads fresh with t exactly when the mask leaves it uncovered and its new temperature, in range, is t
pub fresh_after : (n d : ℕ) (new : List Float) (clouds : List ℕ) (temps : List Float) (ages : List ℕ) (c : ℕ) (t : Float) → c < n →
    (reads_after n d new clouds temps ages c ≡ fresh t) ↔ ((marked clouds c ≡ false) × (in_range (temperature_at new c) ≡ true) × (temperature_at new c ≡ t))
fresh_after n d new clouds temps ages c t h = (
  (λ e. day_fresh (marked clouds c) (temperature_at new c) (temperature_at temps c) (age_at ages c) d t (sym (reads_left n d new clouds temps ages c h) ∙ e)),
  (λ f. reads_left n d new clouds temps ages c h ∙ fresh_day (marked clouds c) (temperature_at new c) (temperature_at temps c) (age_at ages c) d t f),
)

-- a cell is carried to m days with t exactly when the day has nothing new for it, and its old temperature t, in range, is carried on to m days
pub carried_after : (n d : ℕ) (new : List Float) (clouds : List ℕ) (temps : List Float) (ages : List ℕ) (c : ℕ) (t : Float) (m : ℕ) → c < n → d ≤ max_days →
    (reads_after n d new clouds temps ages c ≡ carried t m) ↔ (NothingNew new clouds c × CarriedOn d temps ages c t m)
carried_after n d new clouds temps ages c t m h l =
    let f = day_carried (marked clouds c) (temperature_at new c) (temperature_at temps c) (age_at ages c) d t m l in
    ((λ e. f.0 (sym (reads_left n d new clouds temps ages c h) ∙ e)), (λ w. reads_left n d new clouds temps ages c h ∙ f.1 w))

-- and a gap exactly when there is nothing new for it and it can't be carried
pub gap_exactly_after : (n d : ℕ) (new : List Float) (clouds : List ℕ) (temps : List Float) (ages : List ℕ) (c : ℕ) → c < n → d ≤ max_days →
    (reads_after n d new clouds temps ages c ≡ gap) ↔ (NothingNew new clouds c × NotCarried d temps ages c)
gap_exactly_after n d new clouds temps ages c h l =
    let f = day_gap (marked clouds c) (temperature_at new c) (temperature_at temps c) (age_at ages c) d l in
    ((λ e. f.0 (sym (reads_left n d new clouds temps ages c h) ∙ e)), (λ w. reads_left n d new clouds temps ages c h ∙ f.1 w))

-- with d = 0 no cell is carried
pub none_carried : (n : ℕ) (new : List Float) (clouds : List ℕ) (temps : List Float) (ages : List ℕ) (c : ℕ) (t : Float) (m : ℕ) → c < n →
    reads_after n 0 new clouds temps ages c ≡ carried t m → ⊥
none_carried n new clouds temps ages c t m h e =
    let r = (carried_after n 0 new clouds temps ages c t m h (omega arith)).0 e in
    omega (arith, r.1.2, r.1.3)

-- the count is the number of cells that read fresh
pub count_after : (n d : ℕ) (new : List Float) (clouds : List ℕ) (temps : List Float) (ages : List ℕ) →
    (summary_after n d new clouds temps ages).count ≡ size n (λ c. is_fresh (reads_after n d new clouds temps ages c))
unfolding summary_after
count_after n d new clouds temps ages = count_fresh n (reads_after n d new clouds temps ages)

-- the worked case: with a limit of 2 a covered cell in range of age 1 gets age 2, and one of age 2 becomes a gap
pub two_days : (new old : Float) → in_range old ≡ true → (day_of true new old 1 2 ≡ (old, 2)) × (day_of true new old 2 2 ≡ (nought, 255))
unfolding day_of
two_days new old i = (rw i, refl)

-- an age never falls but to 0
pub age_after : (n d : ℕ) (new : List Float) (clouds : List ℕ) (temps : List Float) (ages : List ℕ) (c : ℕ) → c < n → age_at ages c ≤ 255 →
    (age_at (ages_after n d new clouds temps ages) c ≡ 0) ⊎ (age_at ages c ≤ age_at (ages_after n d new clouds temps ages) c)
unfolding ages_after day_of
age_after n d new clouds temps ages c h b =
    let taken = not (marked clouds c) && in_range (temperature_at new c) in
    let kept = leb (age_at ages c + 1) d && in_range (temperature_at temps c) in
    rw (get_or-list_of 0 n (λ c. (day_at d new clouds temps ages c).1) c h)
    (left_older taken kept (temperature_at new c) (temperature_at temps c) (age_at ages c) b)

-- a cell that was a gap and gets nothing stays one
pub gap_after : (n d : ℕ) (new : List Float) (clouds : List ℕ) (temps : List Float) (ages : List ℕ) (c : ℕ) → c < n → d ≤ max_days →
    NothingNew new clouds c → reading_at temps ages c ≡ gap → reads_after n d new clouds temps ages c ≡ gap
gap_after n d new clouds temps ages c h l nothing g =
    (gap_exactly_after n d new clouds temps ages c h l).1 (nothing, no_carrying (temperature_at temps c) (age_at ages c) d l ((gap_exactly temps ages c).0 g))

-- a value acts on its own cell alone
pub own_cell : (d : ℕ) (new new' : List Float) (clouds : List ℕ) (temps : List Float) (ages : List ℕ) (c : ℕ) →
    temperature_at new c ≡ temperature_at new' c → day_at d new clouds temps ages c ≡ day_at d new' clouds temps ages c
own_cell d new new' clouds temps ages c e = ap (λ (t : Float). day_of (marked clouds c) t (temperature_at temps c) (age_at ages c) d) e
