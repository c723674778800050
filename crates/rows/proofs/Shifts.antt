-- Words of sets, joined and moved by rows and by one place. Assumes nothing.
use Prim.Native.Nat.{ℕ, ◌+◌, ◌*◌, ◌-◌, ◌/◌, ◌%◌, ◌^◌, ◌≤◌, ◌<◌}
use mathlib.Core.Path.{◌≡◌, refl, sym, ap, ap₂, ◌∙◌}
use mathlib.Core.Bool.{Bool, true, false, cond, ◌&&◌, ◌||◌, or-false}
use mathlib.Core.List.{List}
use native.Mathlib.Omega.{arith}
use borrow.Author.Tests.{eqb-true, eqb-false}
use lib.Bits.{bit_and, bit_or}
use lib.Dec.{eqb}
use lib.ListN.{get_or}
use Rattle.bitset.specs.Bits.{bit}
use Rattle.bitset.proofs.Laws.{bit_past, bit_or_lem}
use Rattle.rows.specs.Rows.{lit}
use Rattle.rows.specs.Words.{WordOf, OneOn, OneBack}
use Rattle.rows.proofs.Words.{bit_and_lem, bit_shr, shl_high, shl_low, lit_at}

-- ---- the bits of a shifted word

pub on_bits : (x y : ℕ) → y < 2 ^ 64 → OneOn x y (bit_or (x * 2 ^ 1 % 2 ^ 64) (y / 2 ^ 63))
on_bits x y l = record { bits = λ j h. bit_or_lem (x * 2 ^ 1 % 2 ^ 64) (y / 2 ^ 63) j ∙ go j h (eqb j 0) refl }
  where
    go : (j : ℕ) → j < 64 → (b : Bool) → eqb j 0 ≡ b → (bit (x * 2 ^ 1 % 2 ^ 64) j || bit (y / 2 ^ 63) j) ≡ cond b (bit y 63) (bit x (j - 1))
    go j h true e =
        let z : j ≡ 0 = eqb-true j 0 e in
        let q : 63 + j ≡ 63 = omega arith in
        ap₂ ◌||◌ (shl_low 64 x 1 j (omega arith) h) (bit_shr y 63 j ∙ ap (bit y) q)
    go j h false e =
        let n = eqb-false j 0 e in
        let q : 1 + (j - 1) ≡ j = omega arith in
        ap₂ ◌||◌
        (ap (bit (x * 2 ^ 1 % 2 ^ 64)) (sym q) ∙ shl_high 64 x 1 (j - 1) (omega arith))
        (bit_shr y 63 j ∙ bit_past 64 y (63 + j) l (omega arith))
        ∙ or-false (bit x (j - 1))

pub back_bits : (x y : ℕ) → x < 2 ^ 64 → OneBack x y (bit_or (x / 2 ^ 1) (y * 2 ^ 63 % 2 ^ 64))
back_bits x y l = record { bits = λ j h. bit_or_lem (x / 2 ^ 1) (y * 2 ^ 63 % 2 ^ 64) j ∙ go j h (eqb j 63) refl }
  where
    go : (j : ℕ) → j < 64 → (b : Bool) → eqb j 63 ≡ b → (bit (x / 2 ^ 1) j || bit (y * 2 ^ 63 % 2 ^ 64) j) ≡ cond b (bit y 0) (bit x (j + 1))
    go j h true e =
        let z : j ≡ 63 + 0 = eqb-true j 63 e in
        ap₂ ◌||◌
        (bit_shr x 1 j ∙ bit_past 64 x (1 + j) l (omega arith))
        (ap (bit (y * 2 ^ 63 % 2 ^ 64)) z ∙ shl_high 64 y 63 0 (omega arith))
    go j h false e =
        let n = eqb-false j 63 e in
        let q : 1 + j ≡ j + 1 = omega arith in
        ap₂ ◌||◌ (bit_shr x 1 j ∙ ap (bit x) q) (shl_low 64 y 63 j (omega arith) h) ∙ or-false (bit x (j + 1))

-- ---- words of sets

-- a word that was read
pub word_read : {x : ℕ} (s : List ℕ) (w : ℕ) → x ≡ get_or s w 0 → WordOf x (lit s) w
word_read s w e = record { bits = λ j h. ap (λ (y : ℕ). bit y j) e ∙ sym (lit_at s w j h) }

-- a row on, and a row back
pub word_next : {x v w : ℕ} {P : ℕ → Bool} → v ≡ w + 5 → WordOf x P v → WordOf x (λ i. P (i + 320)) w
word_next {x} {v} {w} {P} e f = record { bits = λ j h. f.bits j h ∙ ap P (moved j) }
  where
    moved : (j : ℕ) → 64 * v + j ≡ 64 * w + j + 320
    moved j = omega arith

pub word_last : {x v w : ℕ} {P : ℕ → Bool} → w ≡ v + 5 → WordOf x P v → WordOf x (λ i. P (i - 320)) w
word_last {x} {v} {w} {P} e f = record { bits = λ j h. f.bits j h ∙ ap P (moved j) }
  where
    moved : (j : ℕ) → 64 * v + j ≡ 64 * w + j - 320
    moved j = omega arith

-- joined
pub word_or : {x y w : ℕ} {P Q : ℕ → Bool} → WordOf x P w → WordOf y Q w → WordOf (bit_or x y) (λ i. P i || Q i) w
word_or {x} {y} f g = record { bits = λ j h. bit_or_lem x y j ∙ ap₂ ◌||◌ (f.bits j h) (g.bits j h) }

pub word_and : {x y w : ℕ} {P Q : ℕ → Bool} → WordOf x P w → WordOf y Q w → WordOf (bit_and x y) (λ i. P i && Q i) w
word_and {x} {y} f g = record { bits = λ j h. bit_and_lem x y j ∙ ap₂ ◌&&◌ (f.bits j h) (g.bits j h) }

-- moved by one place
pub word_on : {x y r v w : ℕ} {P : ℕ → Bool} → w ≡ v + 1 → OneOn x y r → WordOf x P w → WordOf y P v → WordOf r (λ i. P (i - 1)) w
word_on {x} {y} {r} {v} {w} {P} l o f g = record { bits = λ j h. o.bits j h ∙ go j h (eqb j 0) refl }
  where
    go : (j : ℕ) → j < 64 → (b : Bool) → eqb j 0 ≡ b → cond b (bit y 63) (bit x (j - 1)) ≡ P (64 * w + j - 1)
    go j h true e =
        let z : j ≡ 0 = eqb-true j 0 e in
        let q : 64 * v + 63 ≡ 64 * w + j - 1 = omega arith in
        g.bits 63 (omega arith) ∙ ap P q
    go j h false e =
        let n = eqb-false j 0 e in
        let q : 64 * w + (j - 1) ≡ 64 * w + j - 1 = omega arith in
        f.bits (j - 1) (omega arith) ∙ ap P q

pub word_back : {x y r v w : ℕ} {P : ℕ → Bool} → v ≡ w + 1 → OneBack x y r → WordOf x P w → WordOf y P v → WordOf r (λ i. P (i + 1)) w
word_back {x} {y} {r} {v} {w} {P} l o f g = record { bits = λ j h. o.bits j h ∙ go j h (eqb j 63) refl }
  where
    go : (j : ℕ) → j < 64 → (b : Bool) → eqb j 63 ≡ b → cond b (bit y 0) (bit x (j + 1)) ≡ P (64 * w + j + 1)
    go j h true e =
        let z : j ≡ 63 = eqb-true j 63 e in
        let q : 64 * v + 0 ≡ 64 * w + j + 1 = omega arith in
        g.bits 0 (omega arith) ∙ ap P q
    go j h false e =
        let n = eqb-false j 63 e in
        let q : 64 * w + (j + 1) ≡ 64 * w + j + 1 = omega arith in
        f.bits (j + 1) (omega arith) ∙ ap P q

-- the same word of a set that is the same from there on
pub word_same : {x w : ℕ} {P Q : ℕ → Bool} → ((i : ℕ) → 64 * w ≤ i → P i ≡ Q i) → WordOf x P w → WordOf x Q w
word_same {x} {w} e f = record { bits = λ j h. f.bits j h ∙ e (64 * w + j) (omega arith) }
