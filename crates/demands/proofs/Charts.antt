-- The chart that a day leaves, read by the call. Assumes nothing.
use Prim.Native.Nat.{ℕ, ◌≤◌, ◌<◌}
use mathlib.Core.Path.{◌≡◌, sym, ap, ◌∙◌}
use mathlib.Core.Bool.{Bool, true, false}
use mathlib.Core.List.{List}
use mathlib.Core.Logic.{◌↔◌}
use native.Mathlib.Omega.{arith}
use borrow.Author.Tests.{ltb-false, le-ltb, lt-leb}
use lib.Ieee.{Float}
use lib.ListN.{length}
use Rattle.refusal.specs.Answer.{Answer, given}
use Rattle.refusal.proofs.Answers.{Passed, given_same, passed, gives}
use Rattle.refusal.proofs.Tests.{length_passes}
use Rattle.bitset.specs.Bits.{marked, size}
use Rattle.bitset.proofs.Laws.{size_cong}
use Rattle.cell.specs.Cell.{cells}
use Rattle.mask.specs.Mask.{max_mask_level}
use Rattle.chart.specs.Chart.{in_range, Reading, fresh, carried, gap, max_days, temperature_at, age_at, Fresh, Carried, Gap, reading_tests, reading_at, reading_call}
use Rattle.chart.proofs.Laws.{fresh_exactly, carried_exactly, gap_exactly}
use Rattle.day.specs.Day.{nought, temperatures_after, ages_after, reads_after, Summary, Foremost, Coldest, Warmest, day_tests, summary_after, day_call}
use Rattle.demands.specs.Demand2.{IsChart, answers_fresh}
use Rattle.day.proofs.Days.{length_list_of}
use Rattle.day.proofs.DayLaws.{NothingNew, CarriedOn, NotCarried, fresh_after, carried_after, gap_exactly_after, count_after}
use Rattle.day.proofs.Bounds.{coldest_after, warmest_after, none_after}

-- ---- readings

-- what the call answers of a chart
reads : (k : ℕ) (temps : List Float) (ages : List ℕ) → IsChart k temps ages → (c : ℕ) → c < cells k →
    reading_call k temps ages c ≡ given (reading_at temps ages c)
reads k temps ages w c h =
    sym (gives (reading_tests k temps ages c) (reading_at temps ages c)
    (le-ltb max_mask_level k w.0, (lt-leb (cells k) c h, (length_passes (cells k) temps w.1, (length_passes (cells k) ages w.2, tt)))))

-- what is said of a reading is said of the answer
read_as : {answer : Answer Reading} {r r' : Reading} {B : Type 0} → answer ≡ given r → ((r ≡ r') ↔ B) → (answer ≡ given r') ↔ B
read_as e f = ((λ p. f.0 (given_same (sym e ∙ p))), (λ w. e ∙ ap given (f.1 w)))

module _ (k : ℕ) (temps : List Float) (ages : List ℕ) (c : ℕ) (w : IsChart k temps ages) (h : c < cells k) where
  pub reads_fresh : (t : Float) → (reading_call k temps ages c ≡ given (fresh t)) ↔ Fresh (temperature_at temps c) (age_at ages c) t
  reads_fresh t = read_as (reads k temps ages w c h) (fresh_exactly temps ages c t)

  pub reads_carried : (t : Float) (m : ℕ) → (reading_call k temps ages c ≡ given (carried t m)) ↔ Carried (temperature_at temps c) (age_at ages c) t m
  reads_carried t m = read_as (reads k temps ages w c h) (carried_exactly temps ages c t m)

  pub reads_gap : (reading_call k temps ages c ≡ given gap) ↔ Gap (temperature_at temps c) (age_at ages c)
  reads_gap = read_as (reads k temps ages w c h) (gap_exactly temps ages c)

-- ---- days

module _ (k d : ℕ) (new : List Float) (clouds : List ℕ) (temps : List Float) (ages : List ℕ) (s : Summary)
    (accepted : (day_call k d new clouds temps ages).0 ≡ given s) where
  -- the two slices that it leaves
  abbrev temps' : List Float
  temps' = temperatures_after (cells k) d new clouds temps ages

  abbrev ages' : List ℕ
  ages' = ages_after (cells k) d new clouds temps ages

  warmth : length temps' ≡ cells k
  unfolding temperatures_after
  warmth = length_list_of (cells k) _

  aged : length ages' ≡ cells k
  unfolding ages_after
  aged = length_list_of (cells k) _

  tests : Passed (day_tests k d new clouds temps ages) × (summary_after (cells k) d new clouds temps ages ≡ s)
  tests = passed (day_tests k d new clouds temps ages) (summary_after (cells k) d new clouds temps ages) s (sym accepted)

  limit : d ≤ max_days
  limit = ltb-false max_days d tests.0.1.1.1.1.1.0

  -- what the reading call answers of them
  answered : (c : ℕ) → c < cells k →
      let left = (day_call k d new clouds temps ages).1 in reading_call k left.temperatures left.ages c ≡ given (reads_after (cells k) d new clouds temps ages c)
  answered c h =
      rw accepted (reads k temps' ages' (ltb-false max_mask_level k tests.0.0, warmth, aged) c h)

  pub day_fresh : (c : ℕ) → c < cells k → (t : Float) →
      let left = (day_call k d new clouds temps ages).1 in
      (reading_call k left.temperatures left.ages c ≡ given (fresh t)) ↔
      ((marked clouds c ≡ false) × (in_range (temperature_at new c) ≡ true) × (temperature_at new c ≡ t))
  day_fresh c h t = read_as (answered c h) (fresh_after (cells k) d new clouds temps ages c t h)

  pub day_carried : (c : ℕ) → c < cells k → (t : Float) (m : ℕ) →
      let left = (day_call k d new clouds temps ages).1 in
      (reading_call k left.temperatures left.ages c ≡ given (carried t m)) ↔ (NothingNew new clouds c × CarriedOn d temps ages c t m)
  day_carried c h t m = read_as (answered c h) (carried_after (cells k) d new clouds temps ages c t m h limit)

  pub day_gap : (c : ℕ) → c < cells k →
      let left = (day_call k d new clouds temps ages).1 in
      (reading_call k left.temperatures left.ages c ≡ given gap) ↔ (NothingNew new clouds c × NotCarried d temps ages c)
  day_gap c h = read_as (answered c h) (gap_exactly_after (cells k) d new clouds temps ages c h limit)

  -- the summary is that of the chart
  summed : s ≡ summary_after (cells k) d new clouds temps ages
  summed = sym tests.1

  pub day_count :
      let left = (day_call k d new clouds temps ages).1 in
      s.count ≡ size (cells k) (λ c. answers_fresh (reading_call k left.temperatures left.ages c))
  day_count =
      ap (λ (s : Summary). s.count) summed ∙ count_after (cells k) d new clouds temps ages
      ∙ size_cong (cells k) _ _ (λ c h. ap answers_fresh (sym (answered c h)))

  -- the foremost of the readings is that of the call's answers
  called : (ahead notBehind : Float → Float → Bool) (x y : Float) → x ≡ y →
      Foremost ahead notBehind (cells k) (λ c t. reads_after (cells k) d new clouds temps ages c ≡ fresh t) y →
      let left = (day_call k d new clouds temps ages).1 in
      Foremost ahead notBehind (cells k) (λ c t. reading_call k left.temperatures left.ages c ≡ given (fresh t)) x
  called ahead notBehind x y e f = record {
    cell = f.cell;
    inside = f.inside;
    own = answered f.cell f.inside ∙ ap given (rw e f.own);
    bounds = λ c h t r. rw e (f.bounds c h t (given_same (sym (answered c h) ∙ r)));
    first = λ c h t r. rw e (f.first c h t (given_same (sym (answered c (omega (arith, f.inside))) ∙ r)));
  }

  pub day_coldest : 1 ≤ s.count →
      let left = (day_call k d new clouds temps ages).1 in Coldest (cells k) (λ c t. reading_call k left.temperatures left.ages c ≡ given (fresh t)) s.coldest
  day_coldest h = called _ _ s.coldest _ (ap (λ (s : Summary). s.coldest) summed) (coldest_after (cells k) d new clouds temps ages (rw (← summed) h))

  pub day_warmest : 1 ≤ s.count →
      let left = (day_call k d new clouds temps ages).1 in Warmest (cells k) (λ c t. reading_call k left.temperatures left.ages c ≡ given (fresh t)) s.warmest
  day_warmest h = called _ _ s.warmest _ (ap (λ (s : Summary). s.warmest) summed) (warmest_after (cells k) d new clouds temps ages (rw (← summed) h))

  pub day_none : s.count ≡ 0 → (s.coldest ≡ nought) × (s.warmest ≡ nought)
  day_none h =
      let e = summed ∙ none_after (cells k) d new clouds temps ages (ap (λ (s : Summary). s.count) (sym summed) ∙ h) in
      (ap (λ (s : Summary). s.coldest) e, ap (λ (s : Summary). s.warmest) e)
