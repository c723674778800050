-- What follows from the definitions of one day. Assumes nothing.
use Prim.Native.Nat.{ℕ, zero, suc, ◌+◌, ◌≤◌, ◌<◌}
use mathlib.Core.Path.{◌≡◌, refl, sym, ap, ap₂, ◌∙◌}
use mathlib.Core.Bool.{Bool, true, false, ◌&&◌, cond}
use mathlib.Core.List.{List, [], ◌∷◌, ◌++◌}
use native.Mathlib.Numerals.{add-one}
use native.Mathlib.Omega.{arith}
use borrow.Author.Count.{below_none, below_more}
use borrow.Author.Tests.{eqb-true}
use lib.Dec.{eqb}
use lib.Ieee.{Float, nan}
use lib.ListN.{length, get_or, set, length-append, get_or-append}
use lib.Seq.{ext_get_or, get_or_at, get_or-set_same, get_or-set_other}
use Rattle.bitset.specs.Bits.{size}
use Rattle.bitset.proofs.Laws.{size_le}
use Rattle.chart.specs.Chart.{Reading, fresh, carried, gap, reading_of, temperature_at, age_at, reading_at}
use Rattle.day.specs.Day.{nought, day_of, list_of, Summary, none_fresh, with_fresh, with_cell, summary_of, is_fresh}

-- ---- the list of a function's values

pub length_list_of : {A : Type 0} (n : ℕ) (f : ℕ → A) → length (list_of n f) ≡ n
unfolding list_of
length_list_of zero f = refl
length_list_of (suc n) f = rw (length-append, length_list_of n f) (add-one n)

pub get_or-list_of : {A : Type 0} (d : A) (n : ℕ) (f : ℕ → A) (i : ℕ) → i < n → get_or (list_of n f) i d ≡ f i
unfolding list_of
get_or-list_of d zero f i h = absurd (omega arith)
get_or-list_of d (suc n) f i h = below_more (λ (i : ℕ). get_or (list_of n f ++ (f n ∷ [])) i d ≡ f i) n
    (λ k l. get_or-append (list_of n f) _ d k (omega (arith, length_list_of n f)) ∙ get_or-list_of d n f k l)
    (get_or_at (list_of n f) _ [] d n (length_list_of n f)) i (omega arith)

pub list_is : {A : Type 0} (d : A) (n : ℕ) (s : List A) (f : ℕ → A) → length s ≡ n → ((i : ℕ) → i < n → get_or s i d ≡ f i) → s ≡ list_of n f
list_is d n s f e g = ext_get_or d s (list_of n f) (e ∙ sym (length_list_of n f)) (λ i h. g i (omega arith) ∙ sym (get_or-list_of d n f i (omega arith)))

-- one element more is written
pub write_more : {A : Type 0} (d : A) (f : ℕ → A) (s : List A) (i : ℕ) (x : A) → i < length s →
    ((k : ℕ) → k < i → get_or s k d ≡ f k) → x ≡ f i → (k : ℕ) → k < i + 1 → get_or (set s i x) k d ≡ f k
write_more d f s i x h g e = below_more (λ (k : ℕ). get_or (set s i x) k d ≡ f k) i
    (λ k l. get_or-set_other s i k x d (λ (q : k ≡ i). omega arith) ∙ g k l)
    (get_or-set_same s i x d h ∙ e)

pub rest_stays : {A : Type 0} (d : A) (s₀ s : List A) (i : ℕ) (x : A) →
    ((k : ℕ) → i ≤ k → get_or s k d ≡ get_or s₀ k d) → (k : ℕ) → i + 1 ≤ k → get_or (set s i x) k d ≡ get_or s₀ k d
rest_stays d s₀ s i x g k h = get_or-set_other s i k x d (λ (q : k ≡ i). omega arith) ∙ g k (omega arith)

-- ---- one cell

-- one of two tests fails
pub not_first : (a b : Bool) → a ≡ false → (a && b) ≡ false
not_first a b e = rw e

pub not_second : (a b : Bool) → b ≡ false → (a && b) ≡ false
not_second true b e = e
not_second false b e = refl

-- what two tests leave: the new temperature, the old one carried, or a gap
abbrev pub leaves : Bool → Bool → Float → Float → ℕ → Float × ℕ
leaves takes keeps new old age = cond takes (new, 0) (cond keeps (old, age + 1) (nought, 255))

-- ---- the summary

pub summary_of_cong : (n : ℕ) (f g : ℕ → Reading) → ((c : ℕ) → c < n → f c ≡ g c) → summary_of n f ≡ summary_of n g
unfolding summary_of
summary_of_cong zero f g h = refl
summary_of_cong (suc n) f g h = ap₂ with_cell (summary_of_cong n f g (λ c l. h c (omega arith))) (h n (omega arith))

one_more : (b : Bool) (n : ℕ) (x y : Summary) → (b ≡ true → n ≡ 0) → x.count ≡ 1 → y.count ≡ n + 1 → (cond b x y).count ≡ n + 1
one_more true n x y f p q = omega (arith, f refl)
one_more false n x y f p q = q

fresh_more : (s : Summary) (t : Float) → (with_fresh s t).count ≡ s.count + 1
unfolding with_fresh
fresh_more s t = one_more (eqb s.count 0) s.count _ _ (eqb-true s.count 0) refl refl

cell_more : (s : Summary) (r : Reading) → (with_cell s r).count ≡ s.count + cond (is_fresh r) 1 0
unfolding with_cell is_fresh
cell_more s (fresh t) = fresh_more s t
cell_more s (carried t d) = omega arith
cell_more s gap = omega arith

-- the count is the number of fresh readings
pub count_fresh : (n : ℕ) (reads : ℕ → Reading) → (summary_of n reads).count ≡ size n (λ c. is_fresh (reads c))
unfolding summary_of size
count_fresh zero reads = refl
count_fresh (suc n) reads = cell_more (summary_of n reads) (reads n) ∙ ap (λ (m : ℕ). m + cond (is_fresh (reads n)) 1 0) (count_fresh n reads)

pub count_le : (n : ℕ) (reads : ℕ → Reading) → (summary_of n reads).count ≤ n
count_le n reads = omega (arith, count_fresh n reads, size_le n (λ c. is_fresh (reads c)))

-- ---- the pass over the cells

-- what a day leaves of the cells below i, in two slices and a summary, where f gives temperature and age of each cell; the others are as they were
pub record Rewritten (f : ℕ → Float × ℕ) (temps₀ : List Float) (ages₀ : List ℕ) (temps : List Float) (ages : List ℕ) (s : Summary) (i : ℕ) : Type 0 where
  pub warmth : (c : ℕ) → c < i → temperature_at temps c ≡ (f c).0
  pub age : (c : ℕ) → c < i → age_at ages c ≡ (f c).1
  pub warmth_rest : (c : ℕ) → i ≤ c → temperature_at temps c ≡ temperature_at temps₀ c
  pub age_rest : (c : ℕ) → i ≤ c → age_at ages c ≡ age_at ages₀ c
  pub summed : s ≡ summary_of i (λ c. reading_of (f c).0 (f c).1)

pub none_rewritten : (f : ℕ → Float × ℕ) (temps : List Float) (ages : List ℕ) (s : Summary) → s ≡ none_fresh → Rewritten f temps ages temps ages s 0
unfolding summary_of
none_rewritten f temps ages s e = record {
  warmth = below_none _;
  age = below_none _;
  warmth_rest = λ c h. refl;
  age_rest = λ c h. refl;
  summed = e;
}

pub cell_rewritten : (f : ℕ → Float × ℕ) (temps₀ : List Float) (ages₀ : List ℕ) (temps : List Float) (ages : List ℕ) (s : Summary) (i : ℕ) (t : Float)
    (a : ℕ) (s' : Summary) →
    i < length temps → i < length ages → Rewritten f temps₀ ages₀ temps ages s i → (t, a) ≡ f i → s' ≡ with_cell s (reading_of t a) →
    Rewritten f temps₀ ages₀ (set temps i t) (set ages i a) s' (i + 1)
unfolding summary_of
cell_rewritten f temps₀ ages₀ temps ages s i t a s' h l r e q = record {
  warmth = write_more nan (λ c. (f c).0) temps i t h r.warmth (ap (λ (p : Float × ℕ). p.0) e);
  age = write_more 0 (λ c. (f c).1) ages i a l r.age (ap (λ (p : Float × ℕ). p.1) e);
  warmth_rest = rest_stays nan temps₀ temps i t r.warmth_rest;
  age_rest = rest_stays 0 ages₀ ages i a r.age_rest;
  summed = rw add-one (q ∙ ap₂ with_cell r.summed (ap (λ (p : Float × ℕ). reading_of p.0 p.1) e));
}

-- what a day makes of a cell depends on these alone
pub same_cell : (b b' : Bool) (new t t' : Float) (a a' d : ℕ) → b ≡ b' → t ≡ t' → a ≡ a' → day_of b new t a d ≡ day_of b' new t' a' d
same_cell b b' new t t' a a' d p q r = rw (p, q, r)

-- when every cell is passed, the slices and the summary are those of the day
pub all_rewritten : (f : ℕ → Float × ℕ) (temps₀ : List Float) (ages₀ : List ℕ) (temps : List Float) (ages : List ℕ) (s : Summary) (n : ℕ) →
    length temps ≡ n → length ages ≡ n → Rewritten f temps₀ ages₀ temps ages s n →
    (temps ≡ list_of n (λ c. (f c).0)) × (ages ≡ list_of n (λ c. (f c).1))
    × (s ≡ summary_of n (reading_at (list_of n (λ c. (f c).0)) (list_of n (λ c. (f c).1))))
all_rewritten f temps₀ ages₀ temps ages s n h l r = (
  list_is nan n temps (λ c. (f c).0) h r.warmth,
  list_is 0 n ages (λ c. (f c).1) l r.age,
  r.summed
      ∙ summary_of_cong n (λ c. reading_of (f c).0 (f c).1) (reading_at (list_of n (λ c. (f c).0)) (list_of n (λ c. (f c).1)))
      (λ c u. ap₂ reading_of (sym (get_or-list_of nan n (λ c. (f c).0) c u)) (sym (get_or-list_of 0 n (λ c. (f c).1) c u))),
)
