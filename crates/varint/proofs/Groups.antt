-- Groups one by one: how a number's groups and what groups say begin, and what is left of them. Assumes nothing.
use Prim.Native.Nat.{ℕ, zero, suc, ◌+◌, ◌-◌, ◌*◌, ◌/◌, ◌%◌, ◌^◌, ◌≤◌, ◌<◌}
use mathlib.Core.Path.{◌≡◌, refl, sym, ap, ap₂, ◌∙◌}
use mathlib.Core.List.{List, [], ◌∷◌, ◌++◌}
use mathlib.Core.Logic.{⊎_elim}
use native.Mathlib.Nat.{pow-suc, mul-add, mul_assoc, mul-le-mul_left}
use native.Mathlib.Numerals.{add-one}
use native.Mathlib.Omega.{arith}
use borrow.Author.Tests.{lt-ltb, le-ltb}
use lib.Pow.{pow-add}
use Rattle.std.proofs.Common.{pow_mono, max, length-set, length-drop}
use Rattle.std.proofs.lemmas.List.{take_more, take_more_set}
use Rattle.std.proofs.lemmas.Bool.{cases_lt}
use Rattle.std.proofs.lemmas.Nat.{pow_pos}
use lib.ListN.{length, take, drop, get_or, set, drop_of_length-le}
use lib.Seq.{drop-cons}
use Rattle.refusal.specs.Answer.{Answer, given, refused}
use Rattle.refusal.proofs.Answers.{given≢refused, given_same}
use Rattle.varint.specs.Varint.{groups, numeral, more, valued}

-- ---- the groups of a number

-- one that is below 128 is its only group
pub groups_last : (f n : ℕ) → n < 128 → groups (suc f) n ≡ n ∷ []
unfolding groups
groups_last f n h = rw (lt-ltb n 128 h)

-- any other has its low group, with the high bit set, and then those of what is left
pub groups_more : (f n : ℕ) → 128 ≤ n → groups (suc f) n ≡ (128 + n % 128) ∷ groups f (n / 128)
unfolding groups
groups_more f n h = rw (le-ltb n 128 h)

pub groups_most : (f n : ℕ) → length (groups f n) ≤ f
unfolding groups
groups_most zero n = omega arith
groups_most (suc f) n =
    ⊎_elim (λ l. rw (groups_last f n l) (omega arith)) (λ l. rw (groups_more f n l) (omega (arith, groups_most f (n / 128)))) (cases_lt n 128)

pub groups_some : (f n : ℕ) → 1 ≤ length (groups (suc f) n)
groups_some f n = ⊎_elim (λ l. rw (groups_last f n l) (omega arith)) (λ l. rw (groups_more f n l) (omega arith)) (cases_lt n 128)

-- what is left of a number below 128^(f+1) that has more than one group
pub left_below : (f n : ℕ) → 128 ≤ n → n < 128 ^ suc f → (1 ≤ f) × (n / 128 < 128 ^ f)
left_below zero n h l = absurd (omega (arith, pow-suc 128 0))
left_below (suc f) n h l = (omega arith, omega (arith, pow-suc 128 (suc f)))

-- ---- what groups say

pub valued_last : (f b : ℕ) (bs : List ℕ) → b < 128 → valued (suc f) (b ∷ bs) ≡ given (b, 1)
unfolding valued
valued_last f b bs h = rw (lt-ltb b 128 h)

pub valued_more : (f b : ℕ) (bs : List ℕ) → 128 ≤ b → valued (suc f) (b ∷ bs) ≡ more b (valued f bs)
unfolding valued
valued_more f b bs h = rw (le-ltb b 128 h)

-- a number after a byte with its high bit set, where the two say v in n bytes
pub record After (b : ℕ) (a : Answer (ℕ × ℕ)) (v n : ℕ) : Type 0 where
  pub value : ℕ
  pub count : ℕ
  pub says : a ≡ given (value, count)
  pub whole : v ≡ b - 128 + 128 * value
  pub bytes : n ≡ count + 1

pub after : (b : ℕ) (a : Answer (ℕ × ℕ)) (v n : ℕ) → more b a ≡ given (v, n) → After b a v n
after b (given (x, k)) v n e =
    let s = given_same e in
    record { value = x; count = k; says = refl; whole = sym (ap (λ (p : ℕ × ℕ). p.0) s); bytes = sym (ap (λ (p : ℕ × ℕ). p.1) s) }
after b (refused m) v n e = given≢refused (sym e)

-- a number's bytes are some, and there
pub valued_within : (f : ℕ) (bs : List ℕ) (v n : ℕ) → valued f bs ≡ given (v, n) → (1 ≤ n) × (n ≤ length bs)
unfolding valued
valued_within zero bs v n e = given≢refused (sym e)
valued_within (suc f) [] v n e = given≢refused (sym e)
valued_within (suc f) (b ∷ bs) v n e =
    ⊎_elim
    (λ l. let s = ap (λ (p : ℕ × ℕ). p.1) (given_same (sym (valued_last f b bs l) ∙ e)) in omega arith)
    (λ l.
    let a = after b (valued f bs) v n (sym (valued_more f b bs l) ∙ e) in
    omega (arith, a.bytes, valued_within f bs a.value a.count a.says))
    (cases_lt b 128)

-- ---- how many groups a number has: one for each seven bits

seven_bits : (r : ℕ) → 7 ≤ r → 2 ^ r ≡ 128 * 2 ^ (r - 7)
seven_bits r h = ap (λ (i : ℕ). 2 ^ i) (omega arith) ∙ pow-add 2 7 (r - 7)

pub groups_long : (f r n : ℕ) → r < 7 * f → 2 ^ r ≤ max n 1 → max n 1 < 2 * 2 ^ r → r / 7 + 1 ≡ length (groups f n)
unfolding groups
groups_long zero r n l h m = absurd (omega arith)
groups_long (suc f) r n l h m =
    ⊎_elim
    (λ (s : r < 7). rw (groups_last f n (omega (arith, pow_mono {i = r} {j = 6} (omega arith)))) (omega arith))
    (λ (s : 7 ≤ r).
    let e = seven_bits r s in
    let more : 128 ≤ n = omega (arith, pow_pos (r - 7)) in
    rw (groups_more f n more) (omega (arith, groups_long f (r - 7) (n / 128) (omega (arith, s, l)) (omega (arith, e, h)) (omega (arith, e, m)))))
    (cases_lt r 7)

-- ---- a number's groups put one after another

-- k groups of a number are put, and `rest` is what is left of it
pub record Filled (n rest k : ℕ) (out : List ℕ) : Type 0 where
  pub same : length out ≡ length (numeral n)
  pub front : take k out ≡ take k (numeral n)
  pub left : k < length (numeral n) → drop k (numeral n) ≡ groups (5 - k) rest

module _ (n rest k : ℕ) (out : List ℕ) (f : Filled n rest k out) (h : k < length out) where
  -- what is left begins with the next group
  next : groups (suc (4 - k)) rest ≡ get_or (numeral n) k 0 ∷ drop (k + 1) (numeral n)
  next =
      let w : 5 - k ≡ suc (4 - k) = omega (arith, f.same, groups_most 5 n) in
      let l : k < length (numeral n) = omega (arith, f.same) in
      ap (λ (i : ℕ). groups i rest) (sym w) ∙ sym (f.left l) ∙ rw (add-one k) (drop-cons (numeral n) k 0 l)

  put : (b : ℕ) → b ≡ get_or (numeral n) k 0 → take (k + 1) (set out k b) ≡ take (k + 1) (numeral n)
  put b e = take_more_set out k b h ∙ ap₂ (λ (xs : List ℕ) (x : ℕ). xs ++ x ∷ []) f.front e ∙ sym (take_more (numeral n) k 0 (omega (arith, f.same)))

  pub filled_last : rest < 128 → Filled n (rest / 128) (k + 1) (set out k rest)
  filled_last l =
      let e = sym (groups_last (4 - k) rest l) ∙ next in
      record {
        same = length-set out k rest ∙ f.same;
        front = put rest (ap (λ (xs : List ℕ). get_or xs 0 0) e);
        left = λ m. absurd (omega (arith, m, ap length e, length-drop (k + 1) (numeral n)));
      }

  pub filled_more : 128 ≤ rest → Filled n (rest / 128) (k + 1) (set out k (128 + rest % 128))
  filled_more l =
      let e = sym (groups_more (4 - k) rest l) ∙ next in
      let w : 5 - (k + 1) ≡ 4 - k = omega arith in
      record {
        same = length-set out k (128 + rest % 128) ∙ f.same;
        front = put (128 + rest % 128) (ap (λ (xs : List ℕ). get_or xs 0 0) e);
        left = λ m. sym (ap (drop 1) e) ∙ ap (λ (i : ℕ). groups i (rest / 128)) (sym w);
      }

-- ---- groups read one after another

-- what k groups say, v in units of u for those after them, with what these say
abbrev pub onto : ℕ → ℕ → ℕ → Answer (ℕ × ℕ) → Answer (ℕ × ℕ)
onto v u k (given (x, n)) = given (v + u * x, k + n)
onto v u k (refused m) = refused m

pub onto_none : (a : Answer (ℕ × ℕ)) → a ≡ onto 0 1 0 a
onto_none (given (x, n)) = ap₂ (λ (y m : ℕ). given (y, m)) (omega arith) (omega arith)
onto_none (refused m) = refl

pub onto_more : (v u k b : ℕ) (a : Answer (ℕ × ℕ)) → onto v u k (more b a) ≡ onto (v + u * (b - 128)) (u * 128) (k + 1) a
onto_more v u k b (given (x, n)) = ap₂ (λ (y m : ℕ). given (y, m)) (omega (arith, mul-add u (b - 128) (128 * x), mul_assoc u 128 x)) (omega arith)
onto_more v u k b (refused m) = refl

-- the first k groups are read, each with its high bit set
pub record Reading (bs : List ℕ) (v u k : ℕ) : Type 0 where
  pub few : k ≤ 5
  pub units : u ≡ 128 ^ k
  pub small : v < u
  pub says : valued 5 bs ≡ onto v u k (valued (5 - k) (drop k bs))

module _ (bs : List ℕ) (v u k : ℕ) (h : k < 5) (r : Reading bs v u k) where
  one_less : 5 - k ≡ suc (4 - k)
  one_less = omega arith

  pub reading_more : k < length bs → 128 ≤ get_or bs k 0 → get_or bs k 0 < 256 →
      Reading bs (v + u * (get_or bs k 0 - 128)) (u * 128) (k + 1)
  reading_more i l m =
      let b = get_or bs k 0 in
      let f : 5 - (k + 1) ≡ 4 - k = omega arith in
      record {
        few = omega arith;
        units = rw (add-one k, pow-suc) (ap (λ (x : ℕ). x * 128) r.units);
        small = omega (arith, r.small, mul-le-mul_left {m = b - 128} {n = 127} u (omega arith));
        says =
            r.says
            ∙ rw (f, one_less, drop-cons bs k 0 i, valued_more (4 - k) b (drop (suc k) bs) l, add-one k)
            (rw (add-one k) at (onto_more v u k b (valued (4 - k) (drop (suc k) bs))));
      }

  pub reading_last : k < length bs → get_or bs k 0 < 128 → given (v + u * get_or bs k 0, k + 1) ≡ valued 5 bs
  reading_last i l =
      sym (r.says ∙ rw (one_less, drop-cons bs k 0 i, valued_last (4 - k) (get_or bs k 0) (drop (suc k) bs) l))

  pub reading_short : length bs ≤ k → refused 10 ≡ valued 5 bs
  unfolding valued
  reading_short i = sym (r.says ∙ rw (one_less, drop_of_length-le bs i))

pub reading_long : (bs : List ℕ) (v u : ℕ) → Reading bs v u 5 → refused 11 ≡ valued 5 bs
unfolding valued
reading_long bs v u r = sym r.says
