-- When a stored number is refused 10, and when 11. Assumes nothing.
use Prim.Native.Nat.{ℕ, zero, suc, ◌+◌, ◌-◌, ◌*◌, ◌/◌, ◌^◌, ◌≤◌, ◌<◌}
use mathlib.Core.Path.{◌≡◌, refl, sym, ap, ◌∙◌}
use mathlib.Core.Bool.{Bool, true, false, not}
use mathlib.Core.List.{List, [], ◌∷◌}
use mathlib.Core.Logic.{◌⊎◌, inl, inr, ⊎_elim, ◌↔◌}
use native.Mathlib.Nat.{pow-suc}
use native.Mathlib.Omega.{arith}
use borrow.Author.Tests.{leb-true, leb-false, eqb-true, eqb-false, ne_eqb, not-true, ltb-true, ltb-false}
use lib.Dec.{leb, eqb, ltb}
use lib.ListN.{length, drop, get_or}
use Rattle.std.proofs.lemmas.Bool.{cases_lt}
use Rattle.refusal.specs.Answer.{given, refused, Test, ◌when◌, First}
use Rattle.refusal.proofs.Answers.{refused_same, refuses, first}
use Rattle.varint.specs.Varint.{groups, numeral, more, valued, in_form, read_call, HighBits, EndsEarly, groups_say, OutOfForm, NotInForm}
use Rattle.varint.proofs.Groups.{groups_last, groups_more, valued_last, valued_more}
use Rattle.varint.proofs.Laws.{numeral_within}

-- ---- how bytes begin: with the end of a number, with f bytes that go on, or with fewer and nothing after them

data Shape (f : ℕ) (bs : List ℕ) : Type 0 where
  early : length bs < f → HighBits (length bs) bs → valued f bs ≡ refused 10 → Shape f bs
  long : HighBits f bs → valued f bs ≡ refused 11 → Shape f bs
  ends : (j : ℕ) → j < f → HighBits j bs → j < length bs → get_or bs j 0 < 128 → valued f bs ≡ given (groups_say j bs, j + 1) → Shape f bs

-- one more byte with its high bit set
high_more : (b : ℕ) (bs : List ℕ) (j : ℕ) → 128 ≤ b → HighBits j bs → HighBits (suc j) (b ∷ bs)
high_more b bs j h g zero l = h
high_more b bs j h g (suc i) l = g i (omega arith)

shape_more : (f b : ℕ) (bs : List ℕ) → 128 ≤ b → Shape f bs → Shape (suc f) (b ∷ bs)
unfolding groups_say
shape_more f b bs h (early l g e) = early (omega arith) (high_more b bs (length bs) h g) (valued_more f b bs h ∙ ap (more b) e)
shape_more f b bs h (long g e) = long (high_more b bs f h g) (valued_more f b bs h ∙ ap (more b) e)
shape_more f b bs h (ends j l g i s e) =
    ends (suc j) (omega arith) (high_more b bs j h g) (omega arith) s
    (valued_more f b bs h ∙ ap (more b) e ∙ ap (λ (n : ℕ). given (b - 128 + 128 * groups_say j bs, n)) (omega arith))

shape : (f : ℕ) (bs : List ℕ) → Shape f bs
unfolding valued groups_say
shape zero bs = long (λ i l. absurd (omega arith)) refl
shape (suc f) [] = early (omega arith) (λ i l. absurd (omega arith)) refl
shape (suc f) (b ∷ bs) =
    ⊎_elim
    (λ (l : b < 128). ends 0 (omega arith) (λ i h. absurd (omega arith)) (omega arith) l (valued_last f b bs l))
    (λ (h : 128 ≤ b). shape_more f b bs h (shape f bs))
    (cases_lt b 128)

-- a byte with its high bit set is there
high_inside : (bs : List ℕ) (i : ℕ) → 128 ≤ get_or bs i 0 → i < length bs
high_inside [] i h = absurd (omega arith)
high_inside (b ∷ bs) zero h = omega arith
high_inside (b ∷ bs) (suc i) h = omega (arith, high_inside bs i h)

-- ---- the shortest form

-- all of them bytes
abbrev Small : List ℕ → Type 0
Small bs = (i : ℕ) → get_or bs i 0 < 256

small_drop : (bs : List ℕ) → Small bs → Small (drop 1 bs)
small_drop [] d i = omega arith
small_drop (b ∷ bs) d i = d (suc i)

next_is : (bs : List ℕ) (j : ℕ) → get_or (drop 1 bs) j 0 ≡ get_or bs (suc j) 0
next_is [] j = refl
next_is (b ∷ bs) j = refl

-- groups with a last one above 0 say at least 1
say_some : (j : ℕ) (bs : List ℕ) → 1 ≤ get_or bs j 0 → 1 ≤ groups_say j bs
unfolding groups_say
say_some zero bs h = h
say_some (suc j) bs h = omega (arith, say_some j (drop 1 bs) (rw (next_is bs j) h))

-- those with a last one of 0 say less than 128^j
say_below : (j : ℕ) (bs : List ℕ) → Small bs → get_or bs (suc j) 0 ≡ 0 → groups_say (suc j) bs < 128 ^ suc j
unfolding groups_say
say_below zero bs d z = omega (arith, d 0, pow-suc 128 0, next_is bs 0)
say_below (suc j) bs d z = omega (arith, d 0, pow-suc 128 (suc j), say_below j (drop 1 bs) (small_drop bs d) (next_is bs (suc j) ∙ z))

-- a number whose last group is above 0, or is its only one, is in its shortest form
shortest : (f j : ℕ) (bs : List ℕ) → j ≤ f → Small bs → get_or bs j 0 < 128 → (j ≡ 0) ⊎ (1 ≤ get_or bs j 0) →
    length (groups (suc f) (groups_say j bs)) ≡ j + 1
unfolding groups_say
shortest f zero bs h d l w = rw (groups_last f (get_or bs 0 0) l)
shortest zero (suc j) bs h d l w = absurd (omega arith)
shortest (suc f) (suc j) bs h d l w =
    let rest = drop 1 bs in
    let last : 1 ≤ get_or rest j 0 = rw (next_is bs j) (⊎_elim (λ (z : suc j ≡ 0). absurd (omega arith)) (λ (p : 1 ≤ get_or bs (suc j) 0). p) w) in
    let some = say_some j rest last in
    let b = get_or bs 0 0 in
    let v = groups_say j rest in
    let e : (b - 128 + 128 * v) / 128 ≡ v = omega (arith, d 0) in
    let s = shortest f j rest (omega arith) (small_drop bs d) (rw (next_is bs j) l) (inr last) in
    rw (groups_more (suc f) (b - 128 + 128 * v) (omega arith), e) (omega (arith, s))

-- one with a last group of 0 after others is not
not_shortest : (j : ℕ) (bs : List ℕ) → j < 5 → 1 ≤ j → Small bs → get_or bs j 0 ≡ 0 → j + 1 ≡ length (numeral (groups_say j bs)) → ⊥
not_shortest zero bs h l d z e = omega arith
not_shortest (suc j) bs h l d z e =
    omega (arith, numeral_within j (groups_say (suc j) bs) (say_below j bs d z))

positive : (m : ℕ) → (m ≡ 0 → ⊥) → 1 ≤ m
positive m h = omega arith

-- ---- refused 10

module _ (bs : List ℕ) (at : ℕ) where
  abbrev from : List ℕ
  from = drop at bs

  -- the tests of a number's form
  abbrev form_tests : ℕ → ℕ → List Test
  form_tests v n = (11 when leb (2 ^ 32) v) ∷ (11 when not (eqb n (length (numeral v)))) ∷ []

  -- a number that ends is refused by 11 alone
  ends_refused : (v n m : ℕ) → in_form at (given (v, n)) ≡ refused m → (m ≡ 11) × First m (form_tests v n)
  ends_refused v n m e =
      let f = first (form_tests v n) (v, at + n) m (sym e) in (
        ⊎_elim
            (λ (t : (leb (2 ^ 32) v ≡ true) × (m ≡ 11)). t.1)
            (λ (t : (leb (2 ^ 32) v ≡ false) × First m ((11 when not (eqb n (length (numeral v)))) ∷ [])). ⊎_elim (λ (u : (not (eqb n (length (numeral v))) ≡ true) × (m ≡ 11)). u.1) (λ (u : (not (eqb n (length (numeral v))) ≡ false) × ⊥). absurd u.1) t.1)
            f,
        f,
      )

  -- bytes that end early are told from the other two
  early_only : EndsEarly from → Shape 5 from → valued 5 from ≡ refused 10
  early_only w (early l g e) = e
  early_only w (long g e) = absurd (omega (arith, w.0, high_inside from (length from) (g (length from) w.0)))
  early_only w (ends j l g i s e) = absurd (omega (arith, w.1 j i))

  was_early : Shape 5 from → read_call bs at ≡ refused 10 → EndsEarly from
  was_early (early l g e) r = (l, g)
  was_early (long g e) r = let z = refused_same (sym (ap (in_form at) e) ∙ r) in absurd (omega arith)
  was_early (ends j l g i s e) r =
      let z = (ends_refused (groups_say j from) (j + 1) 10 (sym (ap (in_form at) e) ∙ r)).0 in
      absurd (omega arith)

  pub refused_10 : (read_call bs at ≡ refused 10) ↔ EndsEarly from
  refused_10 = (was_early (shape 5 from), (λ w. ap (in_form at) (early_only w (shape 5 from))))

  -- ---- refused 11

  long_only : HighBits 5 from → Shape 5 from → valued 5 from ≡ refused 11
  long_only w (early l g e) = absurd (omega (arith, high_inside from (length from) (w (length from) l)))
  long_only w (long g e) = e
  long_only w (ends j l g i s e) = absurd (omega (arith, w j l))

  module _ (d : Small from) where
    -- one of the tests of the form applies
    out-of-form : (j : ℕ) → j < 5 → HighBits j from → j < length from → get_or from j 0 < 128 →
        First 11 (form_tests (groups_say j from) (j + 1)) → OutOfForm from
    out-of-form j l g i s f = record { before = j; few = l; high = g; ends = (i, s); bad = bad }
      where
        v : ℕ
        v = groups_say j from

        not_equal : (eqb (j + 1) (length (numeral v)) ≡ false) → (1 ≤ j) × (get_or from j 0 ≡ 0)
        not_equal e = go (eqb (get_or from j 0) 0) refl
          where
            differs : length (numeral v) ≡ j + 1 → ⊥
            differs p = eqb-false (j + 1) (length (numeral v)) e (sym p)

            go : (b : Bool) → eqb (get_or from j 0) 0 ≡ b → (1 ≤ j) × (get_or from j 0 ≡ 0)
            go true p =
                let z = eqb-true (get_or from j 0) 0 p in
                (positive j (λ (n : j ≡ 0). differs (shortest 4 j from (omega arith) d s (inl n))), z)
            go false p =
                let n : get_or from j 0 ≡ 0 → ⊥ = eqb-false (get_or from j 0) 0 p in
                absurd (differs (shortest 4 j from (omega arith) d s (inr (positive (get_or from j 0) n))))

        bad : (2 ^ 32 ≤ groups_say j from) ⊎ ((1 ≤ j) × (get_or from j 0 ≡ 0))
        bad = ⊎_elim
            (λ (t : (leb (2 ^ 32) v ≡ true) × (11 ≡ 11)). inl (leb-true (2 ^ 32) v t.0))
            (λ (t : (leb (2 ^ 32) v ≡ false) × First 11 ((11 when not (eqb (j + 1) (length (numeral v)))) ∷ [])).
            ⊎_elim
            (λ (u : (not (eqb (j + 1) (length (numeral v))) ≡ true) × (11 ≡ 11)). inr (not_equal (not-true (eqb (j + 1) (length (numeral v))) u.0)))
            (λ (u : (not (eqb (j + 1) (length (numeral v))) ≡ false) × ⊥). absurd u.1)
            t.1)
            f

    was-out : Shape 5 from → read_call bs at ≡ refused 11 → NotInForm from
    was-out (early l g e) r = let z = refused_same (sym (ap (in_form at) e) ∙ r) in absurd (omega arith)
    was-out (long g e) r = inl g
    was-out (ends j l g i s e) r = inr (out-of-form j l g i s (ends_refused (groups_say j from) (j + 1) 11 (sym (ap (in_form at) e) ∙ r)).1)

    -- a number that is out of form ends where its bytes do
    same_end : (o : OutOfForm from) (j : ℕ) → HighBits j from → get_or from j 0 < 128 → o.before ≡ j
    same_end o j g s = go (ltb o.before j) (ltb j o.before) refl refl
      where
        go : (a b : Bool) → ltb o.before j ≡ a → ltb j o.before ≡ b → o.before ≡ j
        go true b p q = absurd (omega (arith, g o.before (ltb-true o.before j p), o.ends.1))
        go false true p q = absurd (omega (arith, o.high j (ltb-true j o.before q)))
        go false false p q = omega (arith, ltb-false o.before j p, ltb-false j o.before q)

    -- and a test of the form refuses it
    form-refuses : (j : ℕ) → j < 5 → (2 ^ 32 ≤ groups_say j from) ⊎ ((1 ≤ j) × (get_or from j 0 ≡ 0)) →
        refused 11 ≡ in_form at (given (groups_say j from, j + 1))
    form-refuses j l w = go (leb (2 ^ 32) v) refl
      where
        v : ℕ
        v = groups_say j from

        go : (b : Bool) → leb (2 ^ 32) v ≡ b → refused 11 ≡ in_form at (given (groups_say j from, j + 1))
        go true p = refuses (form_tests v (j + 1)) (v, at + (j + 1)) 11 (inl (p, refl))
        go false p = refuses (form_tests v (j + 1)) (v, at + (j + 1)) 11 (inr (p, inl (ap not differs, refl)))
          where
            differs : eqb (j + 1) (length (numeral v)) ≡ false
            differs = ⊎_elim
                (λ (h : 2 ^ 32 ≤ groups_say j from). absurd (omega (arith, leb-false (2 ^ 32) v p)))
                (λ (t : (1 ≤ j) × (get_or from j 0 ≡ 0)). ne_eqb (j + 1) (length (numeral v)) (not_shortest j from l t.0 d t.1))
                w

    out-only : OutOfForm from → Shape 5 from → read_call bs at ≡ refused 11
    out-only o (early l g e) = absurd (omega (arith, g o.before o.ends.0, o.ends.1))
    out-only o (long g e) = absurd (omega (arith, g o.before o.few, o.ends.1))
    out-only o (ends j l g i s e) =
        let same = same_end o j g s in
        ap (in_form at) e ∙ sym (form-refuses j l (rw same at o.bad))

    pub refused_11 : (read_call bs at ≡ refused 11) ↔ NotInForm from
    refused_11 = (
      was-out (shape 5 from),
      (λ w. ⊎_elim
          (λ (g : HighBits 5 from). ap (in_form at) (long_only g (shape 5 from)))
          (λ (o : OutOfForm from). out-only o (shape 5 from))
          w),
    )

  -- and by no other number
  pub refused_by : (m : ℕ) → read_call bs at ≡ refused m → (m ≡ 10) ⊎ (m ≡ 11)
  refused_by m r = go (shape 5 from)
    where
      go : Shape 5 from → (m ≡ 10) ⊎ (m ≡ 11)
      go (early l g e) = inl (sym (refused_same (sym (ap (in_form at) e) ∙ r)))
      go (long g e) = inr (sym (refused_same (sym (ap (in_form at) e) ∙ r)))
      go (ends j l g i s e) = inr (ends_refused (groups_say j from) (j + 1) m (sym (ap (in_form at) e) ∙ r)).0
