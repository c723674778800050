-- The coldest and the warmest of a summary are temperatures of fresh cells, and bound them all. Assumes nothing.
use Prim.Native.Nat.{ℕ, zero, suc, ◌≤◌, ◌<◌}
use mathlib.Core.Path.{◌≡◌, refl, sym, ap, ◌∙◌}
use mathlib.Core.Bool.{Bool, true, false, cond}
use mathlib.Core.List.{List}
use mathlib.Core.Logic.{◌⊎◌, inl, inr}
use native.Mathlib.Omega.{arith}
use borrow.Author.Count.{below_more}
use borrow.Author.Tests.{ne_eqb}
use lib.Ieee as Ieee
use lib.Ieee.{Float}
use Rattle.chart.specs.Chart.{in_range, Reading, fresh, carried, gap, temperature_at, age_at}
use Rattle.day.specs.Day.{Summary, none_fresh, with_fresh, with_cell, summary_of, Foremost, Coldest, Warmest}
use Rattle.day.specs.Day.{temperatures_after, ages_after, reads_after, summary_after}
use Rattle.chart.proofs.Laws.{gap≢fresh, fresh≢carried, fresh_same, reads_fresh}
use Rattle.chart.proofs.Order.{Order, by_cold, by_warmth}

module _ (reads : ℕ → Reading) where
  abbrev Reads : ℕ → Float → Type 0
  Reads c t = reads c ≡ fresh t

  -- no cell below n is fresh
  abbrev NoneFresh : ℕ → Type 0
  NoneFresh n = (c : ℕ) → c < n → (t : Float) → Reads c t → ⊥

-- ---- the foremost with one cell more

module _ (ahead notBehind : Float → Float → Bool) (order : Order ahead notBehind) (reads : ℕ → Reading)
    (inside : (c : ℕ) (t : Float) → reads c ≡ fresh t → in_range t ≡ true) where
  -- what holds of the fresh cells below n, and of t at n, holds below n + 1
  bounds_more : (n : ℕ) (x t : Float) → ((c : ℕ) → c < n → (u : Float) → reads c ≡ fresh u → notBehind x u ≡ true) →
      reads n ≡ fresh t → notBehind x t ≡ true → (c : ℕ) → c < suc n → (u : Float) → reads c ≡ fresh u → notBehind x u ≡ true
  bounds_more n x t f e b c l = below_more (λ (c : ℕ). (u : Float) → reads c ≡ fresh u → notBehind x u ≡ true) n f
      (λ u g. ap (notBehind x) (fresh_same (sym g ∙ e)) ∙ b) c (omega arith)

  -- the first fresh cell
  first_one : (n : ℕ) (t : Float) → NoneFresh reads n → reads n ≡ fresh t → Foremost ahead notBehind (suc n) (Reads reads) t
  first_one n t others e = record {
    cell = n;
    inside = omega arith;
    own = e;
    bounds = bounds_more n t t (λ c l u f. absurd (others c l u f)) e (order.same t (inside n t e));
    first = λ c l u f. absurd (others c l u f);
  }

  -- one that is ahead of the foremost, and one that is not
  one_more : (n : ℕ) (x t : Float) (b : Bool) → ahead t x ≡ b → Foremost ahead notBehind n (Reads reads) x → reads n ≡ fresh t →
      Foremost ahead notBehind (suc n) (Reads reads) (cond b t x)
  one_more n x t true w s e =
      let i = inside n t e in
      let j = inside s.cell x s.own in
      record {
        cell = n;
        inside = omega arith;
        own = e;
        bounds = bounds_more n t t (λ c l u f. order.on t x u i j (inside c u f) (order.won t x i j w) (s.bounds c l u f)) e (order.same t i);
        first = λ c l u f. order.ahead_on t x u i j (inside c u f) w (s.bounds c l u f);
      }
  one_more n x t false w s e = record {
    cell = s.cell;
    inside = omega (arith, s.inside);
    own = s.own;
    bounds = bounds_more n x t s.bounds e (order.lost t x (inside n t e) (inside s.cell x s.own) w);
    first = s.first;
  }

  -- one that is not fresh
  not_one : (n : ℕ) (x : Float) → Foremost ahead notBehind n (Reads reads) x → ((t : Float) → reads n ≡ fresh t → ⊥) →
      Foremost ahead notBehind (suc n) (Reads reads) x
  not_one n x s other = record {
    cell = s.cell;
    inside = omega (arith, s.inside);
    own = s.own;
    bounds = λ c l. below_more (λ (c : ℕ). (u : Float) → reads c ≡ fresh u → notBehind x u ≡ true) n s.bounds (λ u f. absurd (other u f)) c (omega arith);
    first = s.first;
  }

-- ---- the summary of the first cells

module _ (reads : ℕ → Reading) (inside : (c : ℕ) (t : Float) → reads c ≡ fresh t → in_range t ≡ true) where
  -- there is no fresh cell, or the summary has the foremost both ways
  abbrev Summed : ℕ → Summary → Type 0
  Summed n s = ((s ≡ none_fresh) × NoneFresh reads n) ⊎ ((1 ≤ s.count) × Coldest n (Reads reads) s.coldest × Warmest n (Reads reads) s.warmest)

  fresh_summed : (n : ℕ) (s : Summary) (t : Float) → Summed n s → reads n ≡ fresh t → Summed (suc n) (with_fresh s t)
  unfolding with_fresh
  fresh_summed n s t (inl (e, others)) f =
      rw (ap (λ (s : Summary). s.count) e)
      (inr (omega arith, first_one _ _ by_cold reads inside n t others f, first_one _ _ by_warmth reads inside n t others f))
  fresh_summed n s t (inr (l, cold, warm)) f =
      let colder = one_more _ _ by_cold reads inside n s.coldest t (Ieee.lt t s.coldest) refl cold f in
      let warmer = one_more _ _ by_warmth reads inside n s.warmest t (Ieee.lt s.warmest t) refl warm f in
      rw (ne_eqb s.count 0 (λ (z : s.count ≡ 0). omega arith)) (inr (omega arith, colder, warmer))

  same_summed : (n : ℕ) (s : Summary) → Summed n s → ((t : Float) → reads n ≡ fresh t → ⊥) → Summed (suc n) s
  same_summed n s (inl (e, others)) other = inl (e, λ c l. below_more (λ (c : ℕ). (t : Float) → reads c ≡ fresh t → ⊥) n others other c (omega arith))
  same_summed n s (inr (l, cold, warm)) other =
      inr (l, not_one _ _ by_cold reads inside n s.coldest cold other, not_one _ _ by_warmth reads inside n s.warmest warm other)

  cell_summed : (n : ℕ) (s : Summary) (r : Reading) → reads n ≡ r → Summed n s → Summed (suc n) (with_cell s r)
  unfolding with_cell
  cell_summed n s (fresh t) e w = fresh_summed n s t w e
  cell_summed n s (carried t d) e w = same_summed n s w (λ u f. fresh≢carried (sym f ∙ e))
  cell_summed n s gap e w = same_summed n s w (λ u f. gap≢fresh (sym e ∙ f))

  summed : (n : ℕ) → Summed n (summary_of n reads)
  unfolding summary_of
  summed zero = inl (refl, λ c l. absurd (omega arith))
  summed (suc n) = cell_summed n (summary_of n reads) (reads n) refl (summed n)

  -- with a count above 0 coldest and warmest are what they say
  pub extremes : (n : ℕ) → 1 ≤ (summary_of n reads).count →
      Coldest n (Reads reads) (summary_of n reads).coldest × Warmest n (Reads reads) (summary_of n reads).warmest
  extremes n h = go (summed n)
    where
      go : Summed n (summary_of n reads) → Coldest n (Reads reads) (summary_of n reads).coldest × Warmest n (Reads reads) (summary_of n reads).warmest
      go (inl (e, others)) = absurd (omega (arith, ap (λ (s : Summary). s.count) e))
      go (inr (l, cold, warm)) = (cold, warm)

  -- with a count of 0 they are 0.0 twice
  pub no_extremes : (n : ℕ) → (summary_of n reads).count ≡ 0 → summary_of n reads ≡ none_fresh
  no_extremes n h = go (summed n)
    where
      go : Summed n (summary_of n reads) → summary_of n reads ≡ none_fresh
      go (inl (e, others)) = e
      go (inr (l, cold, warm)) = absurd (omega arith)

-- ---- the summary of a day

module _ (n d : ℕ) (new : List Float) (clouds : List ℕ) (temps : List Float) (ages : List ℕ) where
  abbrev after : ℕ → Reading
  after = reads_after n d new clouds temps ages

  fresh_inside : (c : ℕ) (t : Float) → after c ≡ fresh t → in_range t ≡ true
  fresh_inside c t e =
      (reads_fresh (temperature_at (temperatures_after n d new clouds temps ages) c) (age_at (ages_after n d new clouds temps ages) c) t e).2

  pub coldest_after : 1 ≤ (summary_after n d new clouds temps ages).count →
      Coldest n (λ c t. reads_after n d new clouds temps ages c ≡ fresh t) (summary_after n d new clouds temps ages).coldest
  unfolding summary_after
  coldest_after h = (extremes after fresh_inside n h).0

  pub warmest_after : 1 ≤ (summary_after n d new clouds temps ages).count →
      Warmest n (λ c t. reads_after n d new clouds temps ages c ≡ fresh t) (summary_after n d new clouds temps ages).warmest
  unfolding summary_after
  warmest_after h = (extremes after fresh_inside n h).1

  -- with none fresh, 0 and 0.0 twice
  pub none_after : (summary_after n d new clouds temps ages).count ≡ 0 → summary_after n d new clouds temps ages ≡ none_fresh
  unfolding summary_after
  none_after h = no_extremes after fresh_inside n h
