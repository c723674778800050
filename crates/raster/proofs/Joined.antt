-- Bits of words joined with others, bytes of words, squares and bytes of masks. Assumes nothing.
use Prim.Native.Nat.{ℕ, zero, suc, ◌+◌, ◌*◌, ◌-◌, ◌/◌, ◌%◌, ◌^◌, ◌≤◌, ◌<◌}
use mathlib.Core.Path.{◌≡◌, refl, sym, ap, ap₂, ◌∙◌}
use mathlib.Core.Bool.{Bool, true, false, cond, ◌&&◌, ◌||◌, or-false, and_assoc, or_assoc}
use mathlib.Core.List.{List}
use native.Mathlib.Omega.{arith}
use native.Mathlib.Numerals.{add-one}
use borrow.Author.Tests.{le-ltb, eq-eqb, ltb-true, ltb-false, eqb-true, eqb-false}
use lib.Bits.{bit_or}
use lib.Dec.{ltb, eqb}
use lib.ListN.{length, get_or, set}
use Rattle.refusal.proofs.Tests.{same_test, both, parts}
use Rattle.std.specs.Int.{to_le_bytes, from_le_bytes}
use Rattle.std.proofs.Common.{w64, take, drop, inl, inr}
use Rattle.std.proofs.lemmas.Bool.{cases_lt}
use Rattle.std.proofs.lemmas.Nat.{le_bytes_8}
use Rattle.std.proofs.lemmas.List.{get_or-take, get_or-drop, get_or_past}
use Rattle.std.proofs.lemmas.Slice.{take-put_mid_below, between-put_mid, drop-put_mid}
use borrow.Rule.Slice.PartMut.{put_mid}
use Rattle.bitset.specs.Bits.{bit, marked, Bytes}
use Rattle.bitset.proofs.Laws.{bit_zero, bit_past, bit_or_lem}
use Rattle.walk.specs.Reach.{any_below}
use Rattle.rows.specs.Rows.{lit}
use Rattle.rows.proofs.Words.{bit_mod, bit_shr, shl_high, shl_low, lit_at, lit_join}
use Rattle.raster.specs.inside.Squares.{in_square}
use Rattle.raster.proofs.Pieces.{more_test}

-- ---- a byte of a word

-- a byte shifted to its place: its bits there, and no others
pub byte_shl : (y s j : ℕ) → y < 256 → s < 8 → j < 64 → bit (y * 2 ^ (8 * s) % 2 ^ 64) j ≡ (eqb (j / 8) s && bit y (j % 8))
byte_shl y s j h l k = go (ltb (j / 8) s) (eqb (j / 8) s) refl refl
  where
    high : s ≤ j / 8 → bit (y * 2 ^ (8 * s) % 2 ^ 64) j ≡ bit y (j - 8 * s)
    high q =
        let e : 8 * s + (j - 8 * s) ≡ j = omega arith in
        ap (bit (y * 2 ^ (8 * s) % 2 ^ 64)) (sym e) ∙ shl_high 64 y (8 * s) (j - 8 * s) (omega arith)

    go : (x z : Bool) → ltb (j / 8) s ≡ x → eqb (j / 8) s ≡ z → bit (y * 2 ^ (8 * s) % 2 ^ 64) j ≡ (z && bit y (j % 8))
    go x true p q =
        let e = eqb-true (j / 8) s q in
        high (omega arith) ∙ ap (bit y) (omega arith)
    go true false p q = shl_low 64 y (8 * s) j (omega (arith, ltb-true (j / 8) s p)) k
    go false false p q = high (ltb-false (j / 8) s p) ∙ bit_past 8 y (j - 8 * s) h (omega (arith, ltb-false (j / 8) s p, eqb-false (j / 8) s q))

-- the same byte, counted in a word or in all
same_byte : (i slot : ℕ) → (eqb (i / 64) (slot / 8) && eqb (i % 64 / 8) (slot % 8)) ≡ eqb (i / 8) slot
same_byte i slot = same_test (eqb (i / 64) (slot / 8) && eqb (i % 64 / 8) (slot % 8)) (eqb (i / 8) slot) there back
  where
    there : (eqb (i / 64) (slot / 8) && eqb (i % 64 / 8) (slot % 8)) ≡ true → eqb (i / 8) slot ≡ true
    there e =
        let q = parts (eqb (i / 64) (slot / 8)) (eqb (i % 64 / 8) (slot % 8)) e in
        eq-eqb (i / 8) slot (omega (arith, eqb-true (i / 64) (slot / 8) q.0, eqb-true (i % 64 / 8) (slot % 8) q.1))

    back : eqb (i / 8) slot ≡ true → (eqb (i / 64) (slot / 8) && eqb (i % 64 / 8) (slot % 8)) ≡ true
    back e =
        let q = eqb-true (i / 8) slot e in
        both (eqb (i / 64) (slot / 8)) (eqb (i % 64 / 8) (slot % 8)) (eq-eqb (i / 64) (slot / 8) (omega arith)) (eq-eqb (i % 64 / 8) (slot % 8) (omega arith))

pub lit_byte : (s : List ℕ) (slot y i : ℕ) → slot < 8 * length s → y < 256 →
    lit (set s (slot / 8) (bit_or (get_or s (slot / 8) 0) (y * 2 ^ (8 * (slot % 8)) % 2 ^ 64))) i ≡ (lit s i || (eqb (i / 8) slot && bit y (i % 8)))
lit_byte s slot y i h l =
    let m : i % 64 % 8 ≡ i % 8 = omega arith in
    lit_join s (slot / 8) (y * 2 ^ (8 * (slot % 8)) % 2 ^ 64) i (omega arith)
    ∙ ap (λ (b : Bool). lit s i || b)
    (ap (λ (b : Bool). eqb (i / 64) (slot / 8) && b) (byte_shl y (slot % 8) (i % 64) l (omega arith) (omega arith))
    ∙ sym (and_assoc (eqb (i / 64) (slot / 8)) (eqb (i % 64 / 8) (slot % 8)) (bit y (i % 64 % 8)))
    ∙ ap₂ (λ (b c : Bool). b && c) (same_byte i slot) (ap (bit y) m))

-- bit j of a byte cut out of a word
pub byte_cut : (x s j : ℕ) → j < 8 → bit (x / 2 ^ s % 256) j ≡ bit x (s + j)
byte_cut x s j h = bit_mod 8 (x / 2 ^ s) j h ∙ bit_shr x s j

pub byte_read : (s : List ℕ) (slot j : ℕ) → j < 8 → bit (get_or s (slot / 8) 0 / 2 ^ (8 * (slot % 8)) % 256) j ≡ lit s (8 * slot + j)
byte_read s slot j h =
    let e : 64 * (slot / 8) + (8 * (slot % 8) + j) ≡ 8 * slot + j = omega arith in
    byte_cut (get_or s (slot / 8) 0) (8 * (slot % 8)) j h ∙ sym (lit_at s (slot / 8) (8 * (slot % 8) + j) (omega arith)) ∙ ap (lit s) e

-- ---- a word of eight bytes

-- the first n bytes of a word are those of a set of bits
abbrev pub Bits : ℕ → (ℕ → Bool) → ℕ → Type 0
Bits n F x = (p : ℕ) → p < 64 → bit x p ≡ (ltb (p / 8) n && F p)

pub bits_none : (F : ℕ → Bool) → Bits 0 F 0
bits_none F p h = bit_zero p ∙ sym (ap (λ (b : Bool). b && F p) (le-ltb (p / 8) 0 (omega arith)))

pub bits_more : (F : ℕ → Bool) (n x y : ℕ) → n < 8 → y < 256 → Bits n F x → ((r : ℕ) → r < 8 → bit y r ≡ F (8 * n + r)) →
    Bits (n + 1) F (bit_or x (y * 2 ^ (8 * n) % 2 ^ 64))
bits_more F n x y h l f g p k =
    bit_or_lem x (y * 2 ^ (8 * n) % 2 ^ 64) p
    ∙ ap₂ (λ (b c : Bool). b || c) (f p k) (byte_shl y n p l h k ∙ go (eqb (p / 8) n) refl)
    ∙ more_test (p / 8) n (F p)
  where
    go : (b : Bool) → eqb (p / 8) n ≡ b → (b && bit y (p % 8)) ≡ (b && F p)
    go true e =
        let q = eqb-true (p / 8) n e in
        g (p % 8) (omega arith) ∙ ap F (omega arith)
    go false e = refl

-- ---- squares

pub square_none : (s : List ℕ) (slot square i : ℕ) → lit s i ≡ (lit s i || in_square 0 slot square i)
unfolding in_square any_below
square_none s slot square i = sym (or-false (lit s i))

-- one row more
pub square_more : (s r q : List ℕ) (slot square n i : ℕ) → lit r i ≡ (lit s i || in_square n slot square i) →
    lit q i ≡ (lit r i || (eqb (i / 8) (slot + 40 * n) && bit (square / 2 ^ (8 * n) % 256) (i % 8))) →
    lit q i ≡ (lit s i || in_square (n + 1) slot square i)
unfolding in_square any_below
square_more s r q slot square n i f g =
    let e = byte_cut square (8 * n) (i % 8) (omega arith) in
    g ∙ ap₂ (λ (b c : Bool). b || (eqb (i / 8) (slot + 40 * n) && c)) f e
    ∙ rw (add-one n) (or_assoc (lit s i) (in_square n slot square i) (eqb (i / 8) (slot + 40 * n) && bit square (8 * n + i % 8)))

-- ---- a mask's bytes

-- a word's bits, byte by byte
le_bit : (v i r : ℕ) → i < 8 → r < 8 → bit (get_or (to_le_bytes w64 v) i 0) r ≡ bit v (8 * i + r)
le_bit v zero r h k = bit_mod 8 v r k ∙ ap (bit v) (omega arith)
le_bit v (suc zero) r h k = byte_cut v 8 r k
le_bit v (suc (suc zero)) r h k = byte_cut v 16 r k
le_bit v (suc (suc (suc zero))) r h k = byte_cut v 24 r k
le_bit v (suc (suc (suc (suc zero)))) r h k = byte_cut v 32 r k
le_bit v (suc (suc (suc (suc (suc zero))))) r h k = byte_cut v 40 r k
le_bit v (suc (suc (suc (suc (suc (suc zero)))))) r h k = byte_cut v 48 r k
le_bit v (suc (suc (suc (suc (suc (suc (suc zero))))))) r h k = byte_cut v 56 r k
le_bit v (suc (suc (suc (suc (suc (suc (suc (suc i)))))))) r h k = absurd (omega arith)

le_marked : (v j : ℕ) → j < 64 → marked (to_le_bytes w64 v) j ≡ bit v j
unfolding marked
le_marked v j h =
    let e : 8 * (j / 8) + j % 8 ≡ j = omega arith in
    le_bit v (j / 8) (j % 8) (omega arith) (omega arith) ∙ ap (bit v) e

-- the marks of one block are those of its eight bytes
block_marked : (s : List ℕ) (B j : ℕ) → j < 64 → marked (take 8 (drop (8 * B) s)) j ≡ marked s (64 * B + j)
unfolding marked
block_marked s B j h =
    let e : 8 * B + j / 8 ≡ (64 * B + j) / 8 = omega arith in
    let r : j % 8 ≡ (64 * B + j) % 8 = omega arith in
    ap₂ bit (get_or-take 8 (drop (8 * B) s) (j / 8) 0 (omega arith) ∙ get_or-drop (8 * B) s (j / 8) 0 ∙ ap (λ (i : ℕ). get_or s i 0) e) r

-- they are read as a word
pub word_read : (s bs : List ℕ) (B v : ℕ) → bs ≡ take (8 * B + 8 - 8 * B) (drop (8 * B) s) → length bs ≡ 8 → Bytes s → v ≡ from_le_bytes w64 bs →
    (j : ℕ) → j < 64 → bit v j ≡ marked s (64 * B + j)
word_read s bs B v d l f g j h =
    let eight : 8 * B + 8 - 8 * B ≡ 8 = omega arith in
    let e : bs ≡ take 8 (drop (8 * B) s) = d ∙ ap (λ (n : ℕ). take n (drop (8 * B) s)) eight in
    let small : Bytes bs = λ i. elim (cases_lt i 8) [
      | inl k ↦ omega (arith, f (8 * B + i), ap (λ (r : List ℕ). get_or r i 0) e, get_or-take 8 (drop (8 * B) s) i 0 k, get_or-drop (8 * B) s i 0)
      | inr k ↦ omega (arith, get_or_past bs i 0 (omega arith))
    ] in
    sym (le_marked v j h) ∙ ap (λ (r : List ℕ). marked r j) (le_bytes_8 bs v l small g ∙ e) ∙ block_marked s B j h

-- and written as one
pub word_written : (s bs : List ℕ) (B v : ℕ) → 8 * B + 8 ≤ length s → bs ≡ to_le_bytes w64 v →
    (c : ℕ) → marked (put_mid (8 * B) (8 * B + 8 - 8 * B) s bs) c ≡ cond (eqb (c / 64) B) (bit v (c % 64)) (marked s c)
unfolding marked
word_written s bs B v l e c = go (eqb (c / 64) B) refl
  where
    k : ℕ
    k = 8 * B + 8 - 8 * B

    r : List ℕ
    r = put_mid (8 * B) k s bs

    len : length bs ≡ 8
    len = rw e refl

    go : (b : Bool) → eqb (c / 64) B ≡ b → marked r c ≡ cond b (bit v (c % 64)) (marked s c)
    go true p =
        let q = eqb-true (c / 64) B p in
        let at : c ≡ 64 * B + c % 64 = omega arith in
        let eight : 8 * B + 8 - 8 * B ≡ 8 = omega arith in
        let part : take k (drop (8 * B) r) ≡ to_le_bytes w64 v = between-put_mid (8 * B) k s bs (8 * B + 8) (omega arith) (omega (arith, len)) ∙ e in
        ap (marked r) at ∙ sym (block_marked r B (c % 64) (omega arith)) ∙ ap (λ (n : ℕ). marked (take n (drop (8 * B) r)) (c % 64)) (sym eight)
        ∙ ap (λ (x : List ℕ). marked x (c % 64)) part ∙ le_marked v (c % 64) (omega arith)
    go false p = ap (λ (x : ℕ). bit x (c % 8)) (elim (cases_lt (c / 8) (8 * B)) [
      | inl h ↦ sym (get_or-take (8 * B) r (c / 8) 0 h) ∙ ap (λ (x : List ℕ). get_or x (c / 8) 0) (take-put_mid_below (8 * B) k s bs (8 * B) (omega arith) (omega arith))
          ∙ get_or-take (8 * B) s (c / 8) 0 h
      | inr h ↦
          let m = c / 8 - (8 * B + 8) in
          let at : 8 * B + 8 + m ≡ c / 8 = omega (arith, eqb-false (c / 64) B p) in
          ap (λ (i : ℕ). get_or r i 0) (sym at) ∙ sym (get_or-drop (8 * B + 8) r m 0) ∙ ap (λ (x : List ℕ). get_or x m 0) (drop-put_mid (8 * B) k s bs (8 * B + 8) (omega arith) (omega arith) (omega (arith, len)))
          ∙ get_or-drop (8 * B + 8) s m 0 ∙ ap (λ (i : ℕ). get_or s i 0) at
    ])
