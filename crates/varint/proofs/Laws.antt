-- The laws of stored numbers: what was written is read, and nothing else is read as that number. Assumes nothing.
use Prim.Native.Nat.{ℕ, zero, suc, ◌+◌, ◌-◌, ◌/◌, ◌%◌, ◌^◌, ◌≤◌, ◌<◌}
use mathlib.Core.Path.{◌≡◌, refl, sym, ap, ap₂, ◌∙◌}
use mathlib.Core.Bool.{not}
use mathlib.Core.List.{List, [], ◌∷◌, ◌++◌}
use mathlib.Core.Logic.{⊎_elim}
use native.Mathlib.Nat.{pow-suc, zero-add, suc-add}
use native.Mathlib.Numerals.{add-one}
use native.Mathlib.Omega.{arith}
use borrow.Author.Tests.{lt-leb, leb-false, eqb-true, eq-eqb, not-false}
use lib.Dec.{leb, eqb}
use lib.ListN.{length, take, drop, get_or, length-drop}
use lib.Seq.{drop_at, get_or-drop, take-nil, take-take}
use Rattle.std.proofs.lemmas.Bool.{cases_lt}
use Rattle.refusal.specs.Answer.{Answer, given, refused, ◌when◌}
use Rattle.refusal.proofs.Answers.{given≢refused, given_same, passed, gives}
use Rattle.varint.specs.Varint.{groups, numeral, more, valued, in_form, read_call, Exactly}
use Rattle.varint.proofs.Groups.{groups_last, groups_more, groups_most, groups_some, left_below}
use Rattle.varint.proofs.Groups.{valued_last, valued_more, after, valued_within}

-- a number has one byte to five
pub numeral_length : (n : ℕ) → (1 ≤ length (numeral n)) × (length (numeral n) ≤ 5)
numeral_length n = (groups_some 4 n, groups_most 5 n)

-- at most j + 1 where it is below 128^(j+1)
groups_within : (f j n : ℕ) → n < 128 ^ suc j → length (groups f n) ≤ suc j
unfolding groups
groups_within zero j n h = omega arith
groups_within (suc f) zero n h = rw (groups_last f n (omega (arith, pow-suc 128 0))) (omega arith)
groups_within (suc f) (suc j) n h =
    ⊎_elim
    (λ l. rw (groups_last f n l) (omega arith))
    (λ l. rw (groups_more f n l) (omega (arith, groups_within f j (n / 128) (left_below (suc j) n l h).1)))
    (cases_lt n 128)

pub numeral_within : (j n : ℕ) → n < 128 ^ suc j → length (numeral n) ≤ suc j
numeral_within j n h = groups_within 5 j n h

-- each below 256, of whatever number
groups_bytes : (f n i : ℕ) → get_or (groups f n) i 0 < 256
unfolding groups
groups_bytes zero n i = omega arith
groups_bytes (suc f) n zero = ⊎_elim (λ l. rw (groups_last f n l) (omega arith)) (λ l. rw (groups_more f n l) (omega arith)) (cases_lt n 128)
groups_bytes (suc f) n (suc i) =
    ⊎_elim (λ l. rw (groups_last f n l) (omega arith)) (λ l. rw (groups_more f n l) (groups_bytes f (n / 128) i)) (cases_lt n 128)

pub numeral_bytes : (n i : ℕ) → get_or (numeral n) i 0 < 256
numeral_bytes n i = groups_bytes 5 n i

-- ---- what was written is read

groups_valued : (f n : ℕ) (rest : List ℕ) → n < 128 ^ suc f → valued (suc f) (groups (suc f) n ++ rest) ≡ given (n, length (groups (suc f) n))
groups_valued zero n rest h = let l : n < 128 = omega (arith, pow-suc 128 0) in rw (groups_last zero n l) (valued_last zero n rest l)
groups_valued (suc f) n rest h =
    ⊎_elim
    (λ l. rw (groups_last (suc f) n l) (valued_last (suc f) n rest l))
    (λ l.
    rw (groups_more (suc f) n l)
    (valued_more (suc f) (128 + n % 128) (groups (suc f) (n / 128) ++ rest) (omega arith)
    ∙ ap (more (128 + n % 128)) (groups_valued f (n / 128) rest (left_below (suc f) n l h).1)
    ∙ ap₂ (λ (v k : ℕ). given (v, k)) (omega arith) (omega arith)))
    (cases_lt n 128)

-- reading a number from where it was put gives it and the place after it
pub read_written : (n at : ℕ) (front rest : List ℕ) → n < 2 ^ 32 → length front ≡ at →
    read_call (front ++ (numeral n ++ rest)) at ≡ given (n, at + length (numeral n))
read_written n at front rest h e =
    ap (λ (bs : List ℕ). in_form at (valued 5 bs)) (drop_at front (numeral n ++ rest) at e)
    ∙ ap (in_form at) (groups_valued 4 n rest (omega arith))
    ∙ sym (gives ((11 when leb (2 ^ 32) n) ∷ (11 when not (eqb (length (numeral n)) (length (numeral n)))) ∷ []) (n, at + length (numeral n))
    (lt-leb (2 ^ 32) n h, (ap not (eq-eqb (length (numeral n)) (length (numeral n)) refl), tt)))

-- ---- nothing else is read as that number

-- a number that has two bytes in its shortest form is no single group
not_one : (f v n k : ℕ) → n ≡ length (groups (suc f) v) → n ≡ k + 1 → 1 ≤ k → 128 ≤ v
not_one f v n k l e h = ⊎_elim (λ s. absurd (omega (arith, l ∙ ap length (groups_last f v s)))) (λ m. m) (cases_lt v 128)

valued_groups : (f : ℕ) (bs : List ℕ) (v n : ℕ) → ((i : ℕ) → get_or bs i 0 < 256) →
    valued f bs ≡ given (v, n) → n ≡ length (groups f v) → take n bs ≡ groups f v
unfolding valued
valued_groups zero bs v n d e l = given≢refused (sym e)
valued_groups (suc f) [] v n d e l = given≢refused (sym e)
valued_groups (suc f) (b ∷ bs) v n d e l =
    ⊎_elim
    (λ h.
    let s = given_same (sym (valued_last f b bs h) ∙ e) in
    ap (λ (k : ℕ). take k (b ∷ bs)) (sym (ap (λ (p : ℕ × ℕ). p.1) s))
    ∙ sym (groups_last f b h)
    ∙ ap (groups (suc f)) (ap (λ (p : ℕ × ℕ). p.0) s))
    (λ h.
    let a = after b (valued f bs) v n (sym (valued_more f b bs h) ∙ e) in
    let w = valued_within f bs a.value a.count a.says in
    let m = not_one f v n a.count l a.bytes w.0 in
    let c = d 0 in
    let eb : b ≡ 128 + v % 128 = omega (arith, a.whole) in
    let ev : a.value ≡ v / 128 = omega (arith, a.whole) in
    let g = groups_more f v m in
    let el : a.count ≡ length (groups f a.value) = rw ev (omega (arith, a.bytes, l ∙ ap length g)) in
    ap (λ (k : ℕ). take k (b ∷ bs)) (a.bytes ∙ add-one a.count)
    ∙ ap₂ (λ (x : ℕ) (xs : List ℕ). x ∷ xs) eb (valued_groups f bs a.value a.count (λ i. d (suc i)) a.says el ∙ ap (groups f) ev)
    ∙ sym g)
    (cases_lt b 128)

-- what the tests of a number's form leave: v, of `count` bytes
record Formed (at : ℕ) (a : Answer (ℕ × ℕ)) (v next : ℕ) : Type 0 where
  count : ℕ
  says : a ≡ given (v, count)
  below : v < 2 ^ 32
  shortest : count ≡ length (numeral v)
  place : next ≡ at + count

formed : (at : ℕ) (a : Answer (ℕ × ℕ)) (v next : ℕ) → in_form at a ≡ given (v, next) → Formed at a v next
formed at (refused m) v next e = given≢refused (sym e)
formed at (given (x, n)) v next e =
    let p = passed ((11 when leb (2 ^ 32) x) ∷ (11 when not (eqb n (length (numeral x)))) ∷ []) (x, at + n) (v, next) (sym e) in
    let s = ap (λ (p : ℕ × ℕ). p.0) p.1 in
    record {
      count = n;
      says = ap (λ (y : ℕ). given (y, n)) s;
      below = omega (arith, leb-false (2 ^ 32) x p.0.0);
      shortest = eqb-true n (length (numeral x)) (not-false (eqb n (length (numeral x))) p.0.1.0) ∙ ap (λ (y : ℕ). length (numeral y)) s;
      place = sym (ap (λ (p : ℕ × ℕ). p.1) p.1);
    }

-- the place after a number that was read
pub read_place : (bs : List ℕ) (at v next : ℕ) → read_call bs at ≡ given (v, next) → next ≡ at + length (numeral v)
read_place bs at v next e = let r = formed at (valued 5 (drop at bs)) v next e in omega (arith, r.place, r.shortest)

-- what was read is exactly that
pub read_exactly : (bs : List ℕ) (at v next : ℕ) → ((i : ℕ) → get_or bs i 0 < 256) → read_call bs at ≡ given (v, next) → Exactly bs at v next
read_exactly bs at v next d e =
    let r = formed at (valued 5 (drop at bs)) v next e in
    let n : next - at ≡ r.count = omega (arith, r.place) in
    record {
      below = r.below;
      place = read_place bs at v next e;
      bytes =
          ap (λ (k : ℕ). take k (drop at bs)) n
          ∙ valued_groups 5 (drop at bs) v r.count (λ i. rw (get_or-drop at bs i 0) (d (at + i))) r.says r.shortest;
    }

-- ---- five bytes from its place on are enough to read a number

-- what groups say is said by the first f bytes
valued_front : (f : ℕ) (bs : List ℕ) → valued f (take f bs) ≡ valued f bs
unfolding valued
valued_front zero bs = refl
valued_front (suc f) [] = refl
valued_front (suc f) (b ∷ bs) =
    ⊎_elim
    (λ l. valued_last f b (take f bs) l ∙ sym (valued_last f b bs l))
    (λ l. valued_more f b (take f bs) l ∙ ap (more b) (valued_front f bs) ∙ sym (valued_more f b bs l))
    (cases_lt b 128)

-- the bytes from a place on, of some at the front
drop_take : (at j : ℕ) (bs : List ℕ) → drop at (take (at + j) bs) ≡ take j (drop at bs)
drop_take zero j bs = rw (zero-add j)
drop_take (suc at) j [] = rw (suc-add at j, take-nil j)
drop_take (suc at) j (b ∷ bs) = rw (suc-add at j) (drop_take at j bs)

pub read_front : (bs : List ℕ) (at m : ℕ) → at + 5 ≤ m → read_call (take m bs) at ≡ read_call bs at
read_front bs at m h =
    let e : m ≡ at + (m - at) = omega arith in
    ap (in_form at)
    (ap (λ (i : ℕ). valued 5 (drop at (take i bs))) e
    ∙ ap (valued 5) (drop_take at (m - at) bs)
    ∙ sym (valued_front 5 (take (m - at) (drop at bs)))
    ∙ ap (valued 5) (take-take 5 (m - at) (drop at bs) (omega arith))
    ∙ valued_front 5 (drop at bs))

-- ---- a number that was read ends within the bytes

pub read_inside : (bs : List ℕ) (at v next : ℕ) → read_call bs at ≡ given (v, next) → next ≤ length bs
read_inside bs at v next e =
    let r = formed at (valued 5 (drop at bs)) v next e in
    let w = valued_within 5 (drop at bs) v r.count r.says in
    omega (arith, r.place, w.0, rw length-drop at w.1)
