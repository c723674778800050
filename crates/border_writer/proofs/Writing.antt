-- Writing a border: its cells, the codes between them and the bytes. Assumes nothing.
use Prim.Native.Nat.{ℕ, suc, ◌+◌, ◌-◌, ◌≤◌, ◌<◌, zero}
use mathlib.Core.Path.{◌≡◌, sym, ap, ap₂, ◌∙◌, refl}
use mathlib.Core.Bool.{Bool, true, false}
use mathlib.Core.List.{List, [], ◌∷◌, ◌++◌, append-nil, append_assoc}
use mathlib.Core.Option.{Option, none, some}
use native.Mathlib.Nat.{add-zero, zero-add}
use native.Mathlib.Numerals.{add-one}
use native.Mathlib.Omega.{arith}
use borrow.Rule.Slice.PartMut.{put_mid}
use borrow.Author.Tests.{lt-ltb, le-ltb, leb-false, ltb-false}
use lib.Dec.{leb, ltb}
use lib.ListN.{length, take, drop, get_or, set, length-append, length-set, drop_of_length-le}
use lib.Seq.{drop-cons, take-suc-set, sets, length-sets, take_all}
use Rattle.refusal.specs.Answer.{Answer, given, refused, in_order, done}
use Rattle.refusal.proofs.Answers.{given≢refused, given_same, first}
use Rattle.cell.specs.Cell.{cells, max_level, place, number}
use Rattle.varint.specs.Varint.{numeral, write_call}
use Rattle.code.specs.Step.{found_or, code_call, missing, bad_step, code_to}
use Rattle.border.specs.Stored.{value_of, code_bytes, packed, stored, before, onward, codes_between}
use Rattle.border.specs.Border.{any_from, codes_of}
use Rattle.border_writer.specs.inside.Parts.{write_on}
use Rattle.border.proofs.Digits.{length_digits}
use Rattle.std.proofs.lemmas.List.{drop-drop}
use Rattle.std.proofs.lemmas.List.Edits.{sets-eq}
use Rattle.std.proofs.lemmas.Bool.{or_parts}
use mathlib.Core.Logic.{⊎_elim}
use Rattle.cell.proofs.Answers.{in-range}
use Rattle.code.proofs.Calls.{given_code}
use Rattle.border.proofs.Walks.{codes_below}
use Rattle.border.proofs.Lists.{onto, onto_none, onto_before}

-- ---- cells below a bound

pub each_below : (bound : ℕ) (cs : List ℕ) (i : ℕ) → any_from bound cs ≡ false → i < length cs → get_or cs i 0 < bound
unfolding any_from
each_below bound [] i e l = absurd (omega arith)
each_below bound (c ∷ cs) zero e l = leb-false bound c (or_parts (leb bound c) (any_from bound cs) e).0
each_below bound (c ∷ cs) (suc i) e l = each_below bound cs i (or_parts (leb bound c) (any_from bound cs) e).1 (omega arith)

-- ---- codes between cells, one after another

-- the only code that is refused between cells of a level is one that is missing
refused_7 : (k m n i : ℕ) → k ≤ max_level → m < cells k → n < cells k → refused i ≡ code_call k m n → i ≡ 7
refused_7 k m n i h l l' e =
    let r = place k n in
    let s = code_to k (number k r) (place k m) in
    let g = given_code k m n (place k m) r s (in-range k m (place k m) h l refl) (in-range k n r h l' refl) refl in
    ⊎_elim (λ (t : (missing s ≡ true) × (i ≡ 7)). t.1) (λ (t : (missing s ≡ false) × ⊥). absurd t.1) (first (bad_step s ∷ []) _ i (e ∙ sym g))

-- the codes between the first i + 1 cells are found
pub record Joined (k : ℕ) (cs codes : List ℕ) (i : ℕ) : Type 0 where
  pub long : length cs ≡ length codes + 1
  pub whole : codes_of k cs ≡ onto (take i codes) (codes_between k (get_or cs i 0) (drop (i + 1) cs))

pub none_joined : (k : ℕ) (cs codes : List ℕ) → length cs ≡ length codes + 1 → Joined k cs codes 0
none_joined k cs codes e = record { long = e; whole = onto_none (codes_of k cs) }

module _ (k : ℕ) (cs codes : List ℕ) (i : ℕ) (j : Joined k cs codes i) (h : i < length codes) where
  next : Answer ℕ → Option (List ℕ)
  next a = onward a (λ c. before c (codes_between k (get_or cs (i + 1) 0) (drop (i + 1 + 1) cs)))

  between : codes_between k (get_or cs i 0) (drop (i + 1) cs) ≡ next (code_call k (get_or cs i 0) (get_or cs (i + 1) 0))
  unfolding codes_between next
  between = ap (codes_between k (get_or cs i 0)) (drop-cons cs (i + 1) 0 (omega (arith, j.long))) ∙ rw (add-one (i + 1))

  pub one_joined : (c : ℕ) → given c ≡ code_call k (get_or cs i 0) (get_or cs (i + 1) 0) → Joined k cs (set codes i c) (i + 1)
  unfolding next
  one_joined c e = record {
    long = rw (length-set codes i c) j.long;
    whole =
        j.whole
        ∙ ap (onto (take i codes)) (between ∙ ap next (sym e))
        ∙ onto_before (take i codes) c (codes_between k (get_or cs (i + 1) 0) (drop (i + 1 + 1) cs))
        ∙ ap (λ (l : List ℕ). onto l (codes_between k (get_or cs (i + 1) 0) (drop (i + 1 + 1) cs)))
        (sym (take-suc-set codes i c h) ∙ ap (λ (n : ℕ). take n (set codes i c)) (sym (add-one i)));
  }

  -- between cells of the level a code that is refused is missing
  pub not_joined : (n : ℕ) → k ≤ max_level → any_from (cells k) cs ≡ false →
      refused n ≡ code_call k (get_or cs i 0) (get_or cs (i + 1) 0) → refused n ≡ in_order (bad_step (codes_of k cs) ∷ []) done
  unfolding next
  not_joined n b below e =
      let none_left = j.whole ∙ ap (onto (take i codes)) (between ∙ ap next (sym e)) in
      let here = each_below (cells k) cs i below (omega (arith, j.long)) in
      let there = each_below (cells k) cs (i + 1) below (omega (arith, j.long)) in
      rw (none_left, refused_7 k _ _ n b here there e)

pub all_joined : (k : ℕ) (cs codes : List ℕ) (i : ℕ) → Joined k cs codes i → length codes ≤ i → codes_of k cs ≡ some codes
unfolding codes_between
all_joined k cs codes i j h =
    j.whole
    ∙ ap (λ (l : List ℕ). onto (take i codes) (codes_between k (get_or cs i 0) l)) (drop_of_length-le cs {i = i + 1} (omega (arith, j.long)))
    ∙ ap some (append-nil (take i codes) ∙ take_all i codes h)

-- codes that were found are below 8
pub found_below : (k : ℕ) (cs codes : List ℕ) → given done ≡ in_order (bad_step (codes_of k cs) ∷ []) done → codes ≡ found_or [] (codes_of k cs) →
    (i : ℕ) → get_or codes i 0 < 8
found_below k cs codes e q = codes_below k _ _ codes (there (codes_of k cs) e q)
  where
    there : (s : Option (List ℕ)) → given done ≡ in_order (bad_step s ∷ []) done → codes ≡ found_or [] s → s ≡ some codes
    there none e q = given≢refused e
    there (some xs) e q = ap some (sym q)

-- ---- the bytes, put one part after another

sets_more : (xs ys l : List ℕ) (i : ℕ) → sets (sets l i xs) (i + length xs) ys ≡ sets l i (xs ++ ys)
sets_more [] ys l i = ap (λ (j : ℕ). sets l j ys) (add-zero i)
sets_more (x ∷ xs) ys l i =
    ap (λ (j : ℕ). sets (sets (set l i x) (suc i) xs) j ys) (omega arith) ∙ sets_more xs ys (set l i x) (suc i)

-- a part that is written whole
mid_sets : (z k : ℕ) (l part : List ℕ) → length part ≡ k → z + k ≤ length l → put_mid z k l part ≡ sets l z part
mid_sets z k l part e h = rw (← e, drop-drop, ← append_assoc (take z l) part (drop (z + length part) l)) (sym (sets-eq part l z (omega arith)))

-- a number that was written is put, and the place after it told
written : (n : ℕ) (out : List ℕ) (at m : ℕ) (o : List ℕ) → (given m, o) ≡ write_call n out at →
    (m ≡ at + length (numeral n)) × (o ≡ sets out at (numeral n))
written n out at m o e = go (ltb (length out) next) refl
  where
    next : ℕ
    next = at + length (numeral n)

    go : (t : Bool) → ltb (length out) (at + length (numeral n)) ≡ t → (m ≡ at + length (numeral n)) × (o ≡ sets out at (numeral n))
    go true t = given≢refused (ap (λ (p : Answer ℕ × List ℕ). p.0) (rw t at e))
    go false t =
        let p = rw t at e in (
          given_same (ap (λ (p : Answer ℕ × List ℕ). p.0) p),
          ap (λ (p : Answer ℕ × List ℕ). p.1) p
              ∙ sym (sets-eq (numeral n) out at (ltb-false _ _ t) ∙ append_assoc (take at out) (numeral n) (drop (at + length (numeral n)) out)),
        )

module _ (k start : ℕ) (codes out : List ℕ) where
  abbrev bytes : List ℕ
  bytes = stored k start codes

  -- the places after level, start cell and number of codes
  abbrev a : ℕ
  a = length (numeral k)

  abbrev b : ℕ
  b = a + length (numeral start)

  abbrev c : ℕ
  c = b + length (numeral (length codes))

  pub stored_long : length bytes ≡ c + code_bytes (length codes)
  stored_long =
      length-append (numeral k) _
      ∙ ap (λ (n : ℕ). a + n) (length-append (numeral start) _ ∙ ap (λ (n : ℕ). length (numeral start) + n) (length-append (numeral (length codes)) _))
      ∙ omega (arith, length_digits 256 (code_bytes (length codes)) (value_of 8 codes))

  pub no_room : length out < c + code_bytes (length codes) → (refused 5, out) ≡ write_on k start codes out
  no_room h = rw (lt-ltb (length out) (length bytes) (omega (arith, stored_long)))

  pub border_put : (o₁ o₂ o₃ part : List ℕ) (x y z m : ℕ) → m ≡ c + code_bytes (length codes) → m ≤ length out →
      (given x, o₁) ≡ write_call k out 0 → (given y, o₂) ≡ write_call start o₁ x → (given z, o₃) ≡ write_call (length codes) o₂ y →
      part ≡ packed codes → (given m, put_mid z (m - z) o₃ part) ≡ write_on k start codes out
  border_put o₁ o₂ o₃ part x y z m q h e₁ e₂ e₃ e₄ =
      let counted = numeral (length codes) in
      let p₁ = written k out 0 x o₁ e₁ in
      let p₂ = written start o₁ x y o₂ e₂ in
      let p₃ = written (length codes) o₂ y z o₃ e₃ in
      let same : length o₃ ≡ length out = rw (p₃.1, length-sets, p₂.1, length-sets, p₁.1, length-sets) in
      let long : length part ≡ m - z = rw (e₄, length_digits) (omega (arith, p₁.0, p₂.0, p₃.0)) in
      let whole : sets o₃ z (packed codes) ≡ sets out 0 bytes =
      rw (p₃.1, p₃.0, sets_more counted (packed codes) o₂ y, p₂.1, p₂.0, sets_more (numeral start) (counted ++ packed codes) o₁ x, p₁.1, p₁.0)
      (sets_more (numeral k) (numeral start ++ (counted ++ packed codes)) out 0) in
      let put : put_mid z (m - z) o₃ part ≡ sets out 0 bytes =
      mid_sets z (m - z) o₃ part long (omega (arith, same, p₁.0, p₂.0, p₃.0)) ∙ ap (sets o₃ z) e₄ ∙ whole in
      let front : sets out 0 bytes ≡ bytes ++ drop (length bytes) out =
      sets-eq bytes out 0 (omega (arith, stored_long)) ∙ rw (zero-add (length bytes)) in
      rw (le-ltb (length out) (length bytes) (omega (arith, stored_long)))
      (ap₂ (λ (m : ℕ) (o : List ℕ). (given m, o)) (q ∙ sym stored_long) (put ∙ front))
