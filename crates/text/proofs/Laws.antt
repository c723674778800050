-- The laws of text put into a slice, and of decimal digits. Assumes nothing.
use Prim.Native.Nat.{ℕ, zero, suc, ◌+◌, ◌-◌, ◌/◌, ◌%◌, ◌^◌, ◌≤◌, ◌<◌}
use mathlib.Core.Path.{◌≡◌, refl, sym, ap, ap₂, ◌∙◌}
use mathlib.Core.Bool.{Bool, true, false, cond}
use mathlib.Core.List.{List, [], ◌∷◌, ◌++◌, append_assoc}
use native.Mathlib.Nat.{pow-suc, one-le-pow, pow-le-pow_right}
use native.Mathlib.Omega.{arith}
use borrow.Author.Tests.{le-leb, lt-leb, lt-ltb, le-ltb, ltb-true, ltb-false}
use borrow.Rule.Slice.PartMut.{put_mid, Post-is}
use lib.Dec.{ltb}
use lib.ListN.{length, take, drop, length-drop, length-append, length-take}
use lib.Seq.{take-append_seam}
use Rattle.io.specs.Counts.{IsPrefixLen}
use Rattle.io.specs.Digits.{last_digits, IsDigitCount}
use Rattle.text.specs.Text.{spelled, decimal, appended, refused_word, refusal_line}

-- what does not fit is not put
pub append_none : (out t : List ℕ) (at : ℕ) → length out < at + length t → (out, at) ≡ appended out at t
unfolding appended
append_none out t at h = rw (lt-leb (at + length t) (length out) h)

-- what fits is put by a copy into the part that begins at its place
pub append_some : (out t p : List ℕ) (at : ℕ) → at + length t ≤ length out → p ≡ t →
    (put_mid at (at + length t - at) out p, at + length t) ≡ appended out at t
unfolding appended
append_some out t p at h e =
    rw (le-leb (at + length t) (length out) h)
    (ap (λ (l : List ℕ). (take at out ++ l, at + length t)) (ap₂ ◌++◌ e (Post-is at (at + length t) out (omega arith))))

-- ---- text put piece after piece

-- the first bytes of a slice of length n, up to `at`, are a text
pub record Written (n : ℕ) (out : List ℕ) (at : ℕ) (s : List ℕ) : Type 0 where
  pub long : length out ≡ n
  pub end : at ≡ length s
  pub front : take at out ≡ s

pub written_none : (n : ℕ) (out : List ℕ) → length out ≡ n → Written n out 0 []
written_none n out e = record { long = e; end = refl; front = refl }

pub written_more : (n : ℕ) (out o s t : List ℕ) (at r : ℕ) → length s + length t ≤ n → Written n out at s → (o, r) ≡ appended out at t → Written n o r (s ++ t)
unfolding appended
written_more n out o s t at r h w e =
    let fits : at + length t ≤ length out = omega (arith, w.long, w.end) in
    let f = rw (le-leb (at + length t) (length out) fits) at e in
    let rest = drop (at + length t) out in
    let eo : o ≡ take at out ++ (t ++ rest) = ap (λ (x : List ℕ × ℕ). x.0) f in
    let er : r ≡ at + length t = ap (λ (x : List ℕ × ℕ). x.1) f in
    let es : o ≡ (s ++ t) ++ rest = eo ∙ ap (λ (l : List ℕ). l ++ (t ++ rest)) w.front ∙ sym (append_assoc s t rest) in
    let el : length (s ++ t) ≡ at + length t = length-append s t ∙ ap (λ (i : ℕ). i + length t) (sym w.end) in
    record {
      long = ap length es ∙ simp (length-append, length-drop) (omega (arith, w.long, el));
      end = er ∙ sym el;
      front = ap₂ take (er ∙ sym el) es ∙ take-append_seam (s ++ t) rest;
    }

-- as `io` counts bytes at the start of a slice
pub written_counts : (n : ℕ) (out : List ℕ) (at : ℕ) (s : List ℕ) → Written n out at s → IsPrefixLen at out
written_counts n out at s w =
    let e : at ≡ length (take at out) = w.end ∙ ap length (sym w.front) in
    (omega (arith, simp length-take at e), e)

-- ---- decimal digits

suc_sub_one : (k : ℕ) → suc k - 1 ≡ k
suc_sub_one k = omega arith

-- the fewest digits of a number are its digits with no zero in front
pub fewest_spelled : (j k n : ℕ) → k ≤ j → IsDigitCount 10 1 n k → last_digits 10 k n ≡ spelled j n
unfolding spelled
fewest_spelled j zero n h f = absurd (omega (arith, f.0))
fewest_spelled zero (suc k) n h f = absurd (omega arith)
fewest_spelled (suc j) (suc zero) n h f =
    let l : n < 10 = f.1 in
    let e : n % 10 ≡ n = omega arith in
    rw (e, lt-ltb n 10 l)
fewest_spelled (suc j) (suc (suc k)) n h f =
    let e : suc (suc k) - 1 ≡ suc k = omega arith in
    let b = rw e at (f.2 (omega arith)) in
    let p = pow-suc 10 k in
    let q = pow-suc 10 (suc k) in
    let o = one-le-pow k 10 (omega arith) in
    let g : IsDigitCount 10 1 (n / 10) (suc k) = (omega arith, omega (arith, f.1), λ _. rw (suc_sub_one k) (omega arith)) in
    let front = fewest_spelled j (suc k) (n / 10) (omega arith) g in
    rw (le-ltb n 10 (omega arith), lt-ltb (n % 10) 10 (omega arith)) (ap (λ (l : List ℕ). l ++ ((48 + n % 10) ∷ [])) front)

-- a number below 10^20 has at most 20
pub few_digits : (k n : ℕ) → n < 10 ^ 20 → IsDigitCount 10 1 n k → k ≤ 20
few_digits k n h f = go (ltb 20 k) refl
  where
    go : (b : Bool) → ltb 20 k ≡ b → k ≤ 20
    go true e =
        let l = ltb-true 20 k e in
        absurd (omega (arith, f.2 (omega arith), pow-le-pow_right {n = 10} (omega arith) {i = 20} {j = k - 1} (omega arith)))
    go false e = ltb-false 20 k e

pub spelled_short : (j n : ℕ) → length (spelled j n) ≤ j
unfolding spelled
spelled_short zero n = omega arith
spelled_short (suc j) n = go (ltb n 10) (spelled_short j (n / 10))
  where
    go : (b : Bool) → length (spelled j (n / 10)) ≤ j → length (cond b ((48 + n) ∷ []) (spelled j (n / 10) ++ ((48 + n % 10) ∷ []))) ≤ suc j
    go true h = omega arith
    go false h = simp length-append (omega arith)

-- ---- the line of a refused call

-- 32 bytes have room for it, put piece after piece
pub refusal_written : (out o₁ o₂ o₃ : List ℕ) (a₁ a₂ a₃ n : ℕ) → length out ≡ 32 →
    (o₁, a₁) ≡ appended out 0 refused_word → (o₂, a₂) ≡ appended o₁ a₁ (decimal n) → (o₃, a₃) ≡ appended o₂ a₂ (10 ∷ []) →
    Written 32 o₃ a₃ (refusal_line n)
refusal_written out o₁ o₂ o₃ a₁ a₂ a₃ n long e₁ e₂ e₃ =
    let ln = spelled_short 20 n in
    let w₁ = written_more 32 out o₁ [] refused_word 0 a₁ (omega arith) (written_none 32 out long) e₁ in
    let w₂ = written_more 32 o₁ o₂ refused_word (decimal n) a₁ a₂ (omega arith) w₁ e₂ in
    written_more 32 o₂ o₃ (refused_word ++ decimal n) (10 ∷ []) a₂ a₃ (simp length-append (omega arith)) w₂ e₃

-- it alone, at the front of a slice
pub refusal_alone : (out o : List ℕ) (a n : ℕ) → 29 ≤ length out → (o, a) ≡ appended out 0 (refusal_line n) → IsPrefixLen a o × (take a o ≡ refusal_line n)
refusal_alone out o a n h e =
    let ln = spelled_short 20 n in
    let w = written_more (length out) out o [] (refusal_line n) 0 a (simp length-append (omega arith)) (written_none (length out) out refl) e in
    (written_counts (length out) o a (refusal_line n) w, w.front)
