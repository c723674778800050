-- The laws of sets of cells as bits of bytes, each once. They are what the crates above cite.
-- Assumes nothing.
use Prim.Native.Nat.{ℕ, zero, suc, ◌+◌, ◌*◌, ◌-◌, ◌/◌, ◌%◌, ◌^◌, ◌≤◌, ◌<◌, max}
use mathlib.Core.Path.{◌≡◌, refl, sym, ap, subst, ◌∙◌}
use mathlib.Core.Bool.{Bool, true, false, cond, ◌||◌, or-false, or-true}
use mathlib.Core.List.{List, [], ◌∷◌, ◌++◌}
use mathlib.Core.Logic.{⊎_elim}
use native.Mathlib.Nat.{one-mul, lt_of_lt_of_le, eq-or-lt_of_le, le_of_suc-le-suc, add_comm, add-zero, add-suc, zero-add}
use native.Mathlib.Nat.{div-eq_of_lt, add-mul-div_right, add-mul-mod_self_right, mul-add-mod_self_right, pow-suc, mod-lt, mod-eq_of_lt, div-lt_iff_lt-mul}
use native.Mathlib.Numerals.{add-one}
use native.Mathlib.Omega.{arith}
use borrow.Author.Count.{below_more}
use borrow.Author.Tests.{ltb-true, ltb-false, eq-eqb, ne_eqb, eqb-true, eqb-false}
use lib.Bits.{bit_or, or_step, or_shr, or_lt}
use lib.Count.{ones, ones_cat}
use lib.Dec.{eqb, ltb}
use lib.ListN.{length, get_or, set, length-append, get_or-eq_default, get_or-append}
use lib.Pow.{pow_pos, pow_mono, pow-lt, pow-add, split, high}
use lib.Seq.{ext_get_or, get_or_at, get_or-set_same, get_or-set_other, set_out, set-get_or}
use Rattle.bitset.specs.Bits.{bit, marked, bits_of, bytes_of, Bytes, size, marking}

-- ---- numbers and their bits

-- a number below 2^n has no bit from n on
pub bit_past : (n x j : ℕ) → x < 2 ^ n → n ≤ j → bit x j ≡ false
unfolding bit
bit_past n x j h l = rw (div-eq_of_lt (lt_of_lt_of_le h (pow_mono {i = n} {j = j} l)))

pub bit_zero : (j : ℕ) → bit 0 j ≡ false
bit_zero j = bit_past 0 0 j (omega arith) (omega arith)

-- what stands from bit n on does not matter to the bits below it
bit_low_at : (m b y j : ℕ) → bit (b * 2 ^ (m + 1 + j) + y) j ≡ bit y j
unfolding bit
bit_low_at m b y j =
    let p : b * 2 ^ (m + 1 + j) + y ≡ y + b * 2 ^ m * 2 * 2 ^ j = rw (pow-add 2 (m + 1) j, pow-add 2 m 1) (omega arith) in
    rw (p, add-mul-div_right y (b * 2 ^ m * 2) (pow_pos j), add-mul-mod_self_right)

pub bit_low : (n b y j : ℕ) → j < n → bit (b * 2 ^ n + y) j ≡ bit y j
bit_low n b y j h =
    let e : n - suc j + 1 + j ≡ n = omega arith in
    rw e at (bit_low_at (n - suc j) b y j)

-- nor do the n lowest bits to the one above them
bit_top : (n b y : ℕ) → y < 2 ^ n → b < 2 → bit (b * 2 ^ n + y) n ≡ eqb b 1
unfolding bit
bit_top n b y h l = rw (high b n h, mod-eq_of_lt l)

-- the digit of a Bool
abbrev digit : Bool → ℕ
digit b = cond b 1 0

digit_low : (b : Bool) → digit b < 2
digit_low true = omega arith
digit_low false = omega arith

digit_is : (b : Bool) → eqb (digit b) 1 ≡ b
digit_is true = refl
digit_is false = refl

is_digit : (x : ℕ) → x < 2 → x ≡ digit (eqb x 1)
is_digit zero h = refl
is_digit (suc zero) h = refl
is_digit (suc (suc x)) h = absurd (omega arith)

bits_of_suc : (n : ℕ) (P : ℕ → Bool) → bits_of (suc n) P ≡ digit (P n) * 2 ^ n + bits_of n P
unfolding bits_of
bits_of_suc n P = go (P n)
  where
    go : (b : Bool) → bits_of n P + cond b (2 ^ n) 0 ≡ digit b * 2 ^ n + bits_of n P
    go true = omega arith
    go false = omega arith

-- what holds of each number below n and of n
below_suc : {A : ℕ → Type 0} (n : ℕ) → ((j : ℕ) → j < n → A j) → A n → (j : ℕ) → j < suc n → A j
below_suc {A} n f a j h = ⊎_elim (λ (e : j ≡ n). subst A (sym e) a) (f j) (eq-or-lt_of_le (le_of_suc-le-suc h))

-- the n bits of a set are a number below 2^n, and its bits are the set's
pub bits_of_lt : (n : ℕ) (P : ℕ → Bool) → bits_of n P < 2 ^ n
unfolding bits_of
bits_of_lt zero P = omega arith
bits_of_lt (suc n) P = rw (pow-suc 2 n) (go (P n) (bits_of_lt n P))
  where
    go : (b : Bool) → bits_of n P < 2 ^ n → bits_of n P + cond b (2 ^ n) 0 < 2 ^ n * 2
    go true h = omega arith
    go false h = omega arith

pub bit_bits_of : (n : ℕ) (P : ℕ → Bool) (j : ℕ) → j < n → bit (bits_of n P) j ≡ P j
bit_bits_of zero P j h = absurd (omega arith)
bit_bits_of (suc n) P j h = rw (bits_of_suc n P) (below_suc {A = λ (i : ℕ). bit (digit (P n) * 2 ^ n + bits_of n P) i ≡ P i} n
    (λ i l. bit_low n (digit (P n)) (bits_of n P) i l ∙ bit_bits_of n P i l)
    (bit_top n (digit (P n)) (bits_of n P) (bits_of_lt n P) (digit_low (P n)) ∙ digit_is (P n)) j h)

-- a number below 2^n is settled by its n bits
pub bits_settled : (n x : ℕ) (P : ℕ → Bool) → x < 2 ^ n → ((j : ℕ) → j < n → bit x j ≡ P j) → x ≡ bits_of n P
unfolding bits_of
bits_settled zero x P h f = omega arith
bits_settled (suc n) x P h f =
    let q : x / 2 ^ n < 2 = (div-lt_iff_lt-mul (pow_pos n)).1 (omega (arith, pow-suc 2 n)) in
    let r : x % 2 ^ n < 2 ^ n = mod-lt x (pow_pos n) in
    let s = split x n in
    let low : x % 2 ^ n ≡ bits_of n P = bits_settled n (x % 2 ^ n) P r (λ j l. sym (bit_low n (x / 2 ^ n) (x % 2 ^ n) j l) ∙ rw s (f j (omega arith))) in
    let top : eqb (x / 2 ^ n) 1 ≡ P n = sym (bit_top n (x / 2 ^ n) (x % 2 ^ n) r q) ∙ rw s (f n (omega arith)) in
    sym s ∙ rw (is_digit (x / 2 ^ n) q, top, low) (sym (bits_of_suc n P))

pub bits_same : (n x y : ℕ) → x < 2 ^ n → y < 2 ^ n → ((j : ℕ) → j < n → bit x j ≡ bit y j) → x ≡ y
bits_same n x y h l f = bits_settled n x (bit y) h f ∙ sym (bits_settled n y (bit y) l (λ j k. refl))

pub bits_of_cong : (n : ℕ) (P Q : ℕ → Bool) → ((j : ℕ) → j < n → P j ≡ Q j) → bits_of n P ≡ bits_of n Q
bits_of_cong n P Q f = bits_settled n (bits_of n P) Q (bits_of_lt n P) (λ j h. bit_bits_of n P j h ∙ f j h)

-- ---- one bit more

-- a set with one number more
abbrev with_one : (ℕ → Bool) → ℕ → ℕ → Bool
with_one P c j = P j || eqb c j

with_other : (P : ℕ → Bool) (c j : ℕ) → (c ≡ j → ⊥) → with_one P c j ≡ P j
with_other P c j n = rw (ne_eqb c j n) (or-false (P j))

with_itself : (P : ℕ → Bool) (c : ℕ) → with_one P c c ≡ true
with_itself P c = rw (eq-eqb c c refl) (or-true (P c))

with_member : (P : ℕ → Bool) (c j : ℕ) → P c ≡ true → P j ≡ with_one P c j
with_member P c j e = go (eqb c j) refl
  where
    go : (t : Bool) → eqb c j ≡ t → P j ≡ (P j || t)
    go true q = rw (sym (eqb-true c j q), e)
    go false q = sym (or-false (P j))

-- a number whose bit c is missing gets it, and no other, where 2^c is added
bits_of_more : (n : ℕ) (P : ℕ → Bool) (c : ℕ) → c < n → P c ≡ false → bits_of n (with_one P c) ≡ bits_of n P + 2 ^ c
bits_of_more zero P c h e = absurd (omega arith)
bits_of_more (suc n) P c h e = ⊎_elim
    (λ (q : c ≡ n). rw q (last (subst (λ (i : ℕ). P i ≡ false) q e)))
    (λ (l : c < n). rw (bits_of_suc n (with_one P c), bits_of_suc n P, with_other P c n (λ (q : c ≡ n). omega arith), bits_of_more n P c l e) (omega arith))
    (eq-or-lt_of_le (le_of_suc-le-suc h))
  where
    last : P n ≡ false → bits_of (suc n) (with_one P n) ≡ bits_of (suc n) P + 2 ^ n
    last f =
        let low : bits_of n (with_one P n) ≡ bits_of n P = bits_of_cong n (with_one P n) P (λ j l. with_other P n j (λ (q : n ≡ j). omega arith)) in
        rw (bits_of_suc n (with_one P n), bits_of_suc n P, with_itself P n, f, low) (omega arith)

lt_two_pow : (n : ℕ) → n < 2 ^ n
lt_two_pow zero = omega arith
lt_two_pow (suc n) = omega (arith, lt_two_pow n, pow-suc 2 n)

more_is : (n x c : ℕ) → x < 2 ^ n → c < n → bit x c ≡ false → x + 2 ^ c ≡ bits_of n (with_one (bit x) c)
more_is n x c h l e = ap (λ (y : ℕ). y + 2 ^ c) (bits_settled n x (bit x) h (λ j k. refl)) ∙ sym (bits_of_more n (bit x) c l e)

pub more_lt : (n x c : ℕ) → x < 2 ^ n → c < n → bit x c ≡ false → x + 2 ^ c < 2 ^ n
more_lt n x c h l e = rw (more_is n x c h l e) (bits_of_lt n (with_one (bit x) c))

pub bit_more : (x c j : ℕ) → bit x c ≡ false → bit (x + 2 ^ c) j ≡ (bit x j || eqb c j)
bit_more x c j e =
    let n : ℕ = suc (x + c + j) in
    let h : x < 2 ^ n = lt_of_lt_of_le (lt_two_pow x) (pow_mono {i = x} {j = n} (omega arith)) in
    rw (more_is n x c h (omega arith) e) (bit_bits_of n (with_one (bit x) c) j (omega arith))

-- ---- two numbers' bits together

or_digit : (x y : ℕ) → x < 2 → y < 2 → eqb (max x y % 2) 1 ≡ (eqb x 1 || eqb y 1)
or_digit zero zero h l = refl
or_digit zero (suc zero) h l = refl
or_digit (suc zero) zero h l = refl
or_digit (suc zero) (suc zero) h l = refl
or_digit (suc (suc x)) y h l = absurd (omega arith)
or_digit zero (suc (suc y)) h l = absurd (omega arith)
or_digit (suc zero) (suc (suc y)) h l = absurd (omega arith)

or_low : (x y : ℕ) → eqb (bit_or x y % 2) 1 ≡ (eqb (x % 2) 1 || eqb (y % 2) 1)
or_low x y =
    ap (λ (n : ℕ). eqb (n % 2) 1) (or_step x y)
    ∙ ap (λ (n : ℕ). eqb n 1) (mul-add-mod_self_right (bit_or (x / 2) (y / 2)) 2 (max (x % 2) (y % 2)))
    ∙ or_digit (x % 2) (y % 2) (omega arith) (omega arith)

pub bit_or_lem : (x y j : ℕ) → bit (bit_or x y) j ≡ (bit x j || bit y j)
unfolding bit
bit_or_lem x y j = ap (λ (n : ℕ). eqb (n % 2) 1) (or_shr x y j) ∙ or_low (x / 2 ^ j) (y / 2 ^ j)

pub bit_pow : (c j : ℕ) → bit (2 ^ c) j ≡ eqb c j
bit_pow c j = ap (λ (n : ℕ). bit n j) (sym (zero-add (2 ^ c))) ∙ bit_more 0 c j (bit_zero c) ∙ ap (λ (b : Bool). b || eqb c j) (bit_zero j)

-- one bit and a number's own: the number, or the number with that bit more
pub or_one : (x c : ℕ) → bit_or x (2 ^ c) ≡ cond (bit x c) x (x + 2 ^ c)
or_one x c = bits_same n (bit_or x (2 ^ c)) (cond (bit x c) x (x + 2 ^ c)) (or_lt n x (2 ^ c) h (pow-lt {i = c} {j = n} l)) (low (bit x c) refl)
    (λ j k. bit_or_lem x (2 ^ c) j ∙ ap (λ (b : Bool). bit x j || b) (bit_pow c j) ∙ one (bit x c) refl j)
  where
    n : ℕ
    n = suc (x + c)

    l : c < n
    l = omega arith

    h : x < 2 ^ n
    h = lt_of_lt_of_le (lt_two_pow x) (pow_mono {i = x} {j = n} (omega arith))

    low : (b : Bool) → bit x c ≡ b → cond b x (x + 2 ^ c) < 2 ^ n
    low true e = h
    low false e = more_lt n x c h l e

    one : (b : Bool) → bit x c ≡ b → (j : ℕ) → with_one (bit x) c j ≡ bit (cond b x (x + 2 ^ c)) j
    one true e j = sym (with_member (bit x) c j e)
    one false e j = sym (bit_more x c j e)

-- a one as the code shifts it, in w bits
pub shifted : (w j : ℕ) → j < w → 1 * 2 ^ j % 2 ^ w ≡ 2 ^ j
shifted w j h = rw one-mul (mod-eq_of_lt (pow-lt h))

-- ---- bytes and the cells they mark

-- cell 8 × i + j is bit j of byte i
pub marked_at : (s : List ℕ) (i j : ℕ) → j < 8 → marked s (8 * i + j) ≡ bit (get_or s i 0) j
unfolding marked
marked_at s i j h =
    let q : (8 * i + j) / 8 ≡ i = omega arith in
    let r : (8 * i + j) % 8 ≡ j = omega arith in
    rw (q, r)

pub marked_past : (s : List ℕ) (c : ℕ) → 8 * length s ≤ c → marked s c ≡ false
unfolding marked
marked_past s c h = rw (get_or-eq_default s 0 {n = c / 8} (omega arith)) (bit_zero (c % 8))

pub length_bytes_of : (n : ℕ) (P : ℕ → Bool) → length (bytes_of n P) ≡ n
unfolding bytes_of
length_bytes_of zero P = refl
length_bytes_of (suc n) P = rw (length-append, length_bytes_of n P) (add-one n)

-- byte i holds the eight cells from 8 × i on
pub byte_bytes_of : (n : ℕ) (P : ℕ → Bool) (i : ℕ) → i < n → get_or (bytes_of n P) i 0 ≡ bits_of 8 (λ j. P (8 * i + j))
unfolding bytes_of
byte_bytes_of zero P i h = absurd (omega arith)
byte_bytes_of (suc n) P i h = below_suc {A = λ (i : ℕ). get_or (bytes_of n P ++ (bits_of 8 (λ j. P (8 * n + j)) ∷ [])) i 0 ≡ bits_of 8 (λ j. P (8 * i + j))} n
    (λ k l. get_or-append (bytes_of n P) _ 0 k (omega (arith, length_bytes_of n P)) ∙ byte_bytes_of n P k l)
    (get_or_at (bytes_of n P) _ [] 0 n (length_bytes_of n P)) i h

pub bytes_bytes_of : (n : ℕ) (P : ℕ → Bool) → Bytes (bytes_of n P)
bytes_bytes_of n P i = go (ltb i n) refl
  where
    go : (b : Bool) → ltb i n ≡ b → get_or (bytes_of n P) i 0 < 256
    go true e = rw (byte_bytes_of n P i (ltb-true i n e)) (bits_of_lt 8 (λ j. P (8 * i + j)))
    go false e = rw (get_or-eq_default (bytes_of n P) 0 {n = i} (omega (arith, length_bytes_of n P, ltb-false i n e))) (omega arith)

pub marked_bytes_of : (n : ℕ) (P : ℕ → Bool) (c : ℕ) → c < 8 * n → marked (bytes_of n P) c ≡ P c
unfolding marked
marked_bytes_of n P c h =
    let e : 8 * (c / 8) + c % 8 ≡ c = omega arith in
    rw (byte_bytes_of n P (c / 8) (omega arith)) (bit_bits_of 8 (λ j. P (8 * (c / 8) + j)) (c % 8) (omega arith) ∙ ap P e)

-- byte by byte
pub bytes_are : (n : ℕ) (s : List ℕ) (P : ℕ → Bool) → length s ≡ n → ((i : ℕ) → i < n → get_or s i 0 ≡ bits_of 8 (λ j. P (8 * i + j))) → s ≡ bytes_of n P
bytes_are n s P e f = ext_get_or 0 s (bytes_of n P) (e ∙ sym (length_bytes_of n P)) (λ i h. f i (omega arith) ∙ sym (byte_bytes_of n P i (omega arith)))

-- bytes are settled by the cells they mark
pub settled : (n : ℕ) (s : List ℕ) (P : ℕ → Bool) → length s ≡ n → Bytes s → ((c : ℕ) → c < 8 * n → marked s c ≡ P c) → s ≡ bytes_of n P
settled n s P e b f = bytes_are n s P e (λ i h. bits_settled 8 (get_or s i 0) (λ j. P (8 * i + j)) (b i)
    (λ j l. sym (marked_at s i j l) ∙ f (8 * i + j) (omega arith)))

pub bytes_of_cong : (n : ℕ) (P Q : ℕ → Bool) → ((c : ℕ) → c < 8 * n → P c ≡ Q c) → bytes_of n P ≡ bytes_of n Q
bytes_of_cong n P Q f = settled n (bytes_of n P) Q (length_bytes_of n P) (bytes_bytes_of n P) (λ c h. marked_bytes_of n P c h ∙ f c h)

pub bytes_of_marked : (n : ℕ) (s : List ℕ) → length s ≡ n → Bytes s → bytes_of n (marked s) ≡ s
bytes_of_marked n s e b = sym (settled n s (marked s) e b (λ c h. refl))

-- ---- one cell more marked

pub marking_past : (s : List ℕ) (c : ℕ) → 8 * length s ≤ c → marking s c ≡ s
unfolding marking
marking_past s c h = rw (marked_past s c h) (set_out s (c / 8) (get_or s (c / 8) 0 + 2 ^ (c % 8)) (omega arith))

-- as the code marks it
pub marking_or : (s : List ℕ) (c : ℕ) → set s (c / 8) (bit_or (get_or s (c / 8) 0) (2 ^ (c % 8))) ≡ marking s c
unfolding marking marked
marking_or s c = rw (or_one (get_or s (c / 8) 0) (c % 8)) (go (bit (get_or s (c / 8) 0) (c % 8)))
  where
    go : (b : Bool) → set s (c / 8) (cond b (get_or s (c / 8) 0) (get_or s (c / 8) 0 + 2 ^ (c % 8))) ≡ cond b s (set s (c / 8) (get_or s (c / 8) 0 + 2 ^ (c % 8)))
    go true = set-get_or s (c / 8) 0
    go false = refl

-- a byte that is set, read anywhere
get_d_set : (s : List ℕ) (i x k : ℕ) → i < length s → get_or (set s i x) k 0 ≡ cond (eqb k i) x (get_or s k 0)
get_d_set s i x k h = go (eqb k i) refl
  where
    go : (b : Bool) → eqb k i ≡ b → get_or (set s i x) k 0 ≡ cond b x (get_or s k 0)
    go true e = rw (eqb-true k i e) (get_or-set_same s i x 0 h)
    go false e = get_or-set_other s i k x 0 (eqb-false k i e)

-- a loop that writes one element after the other: those up to i are done
pub fill_more : (f : ℕ → ℕ) (s : List ℕ) (i x : ℕ) → i < length s →
    ((k : ℕ) → k < i → get_or s k 0 ≡ f k) → x ≡ f i → (k : ℕ) → k < i + 1 → get_or (set s i x) k 0 ≡ f k
fill_more f s i x h g e = below_more (λ (k : ℕ). get_or (set s i x) k 0 ≡ f k) i
    (λ k l. get_or-set_other s i k x 0 (λ (q : k ≡ i). omega arith) ∙ g k l)
    (get_or-set_same s i x 0 h ∙ e)

-- two cells of one byte are the same where their bits are
cell_bit : (c d : ℕ) → c / 8 ≡ d / 8 → eqb (c % 8) (d % 8) ≡ eqb c d
cell_bit c d h = go (eqb c d) refl
  where
    go : (t : Bool) → eqb c d ≡ t → eqb (c % 8) (d % 8) ≡ t
    go true e = eq-eqb (c % 8) (d % 8) (ap (λ (n : ℕ). n % 8) (eqb-true c d e))
    go false e = ne_eqb (c % 8) (d % 8) (λ (q : c % 8 ≡ d % 8). eqb-false c d e (omega arith))

marked_set : (s : List ℕ) (c d : ℕ) → c < 8 * length s → marked s c ≡ false →
    marked (set s (c / 8) (get_or s (c / 8) 0 + 2 ^ (c % 8))) d ≡ (marked s d || eqb c d)
unfolding marked
marked_set s c d h e = rw (get_d_set s (c / 8) (x + 2 ^ (c % 8)) (d / 8) (omega arith)) (go (eqb (d / 8) (c / 8)) refl)
  where
    x : ℕ
    x = get_or s (c / 8) 0

    go : (t : Bool) → eqb (d / 8) (c / 8) ≡ t → bit (cond t (x + 2 ^ (c % 8)) (get_or s (d / 8) 0)) (d % 8) ≡ (bit (get_or s (d / 8) 0) (d % 8) || eqb c d)
    go true q =
        let p : d / 8 ≡ c / 8 = eqb-true (d / 8) (c / 8) q in
        rw p (bit_more x (c % 8) (d % 8) e ∙ ap (λ (t : Bool). bit x (d % 8) || t) (cell_bit c d (sym p)))
    go false q = sym (with_other (λ (i : ℕ). bit (get_or s (i / 8) 0) (i % 8)) c d (λ (p : c ≡ d). eqb-false (d / 8) (c / 8) q (omega arith)))

pub marked_marking : (s : List ℕ) (c d : ℕ) → c < 8 * length s → marked (marking s c) d ≡ (marked s d || eqb c d)
unfolding marking
marked_marking s c d h = go (marked s c) refl
  where
    go : (t : Bool) → marked s c ≡ t → marked (cond t s (set s (c / 8) (get_or s (c / 8) 0 + 2 ^ (c % 8)))) d ≡ with_one (marked s) c d
    go true e = with_member (marked s) c d e
    go false e = marked_set s c d h e

-- ---- how many are in a set

pub size_cong : (n : ℕ) (P Q : ℕ → Bool) → ((j : ℕ) → j < n → P j ≡ Q j) → size n P ≡ size n Q
unfolding size
size_cong zero P Q f = refl
size_cong (suc n) P Q f = rw (size_cong n P Q (λ j h. f j (omega arith)), f n (omega arith))

pub size_le : (n : ℕ) (P : ℕ → Bool) → size n P ≤ n
unfolding size
size_le zero P = omega arith
size_le (suc n) P = omega (arith, size_le n P, digit_low (P n))

-- the numbers below n, and the m from n on
pub size_add : (n m : ℕ) (P : ℕ → Bool) → size (n + m) P ≡ size n P + size m (λ j. P (n + j))
unfolding size
size_add n zero P = rw (add-zero n) (omega arith)
size_add n (suc m) P = rw (add-suc n m, size_add n m P) (omega arith)

-- the marked cells of one byte more
pub size_byte : (s : List ℕ) (n : ℕ) → size (8 * suc n) (marked s) ≡ size (8 * n) (marked s) + size 8 (bit (get_or s n 0))
size_byte s n =
    let e : 8 * suc n ≡ 8 * n + 8 = omega arith in
    rw (e, size_add (8 * n) 8 (marked s), size_cong 8 (λ j. marked s (8 * n + j)) (bit (get_or s n 0)) (λ j h. marked_at s n j h))

digit_ones : (x : ℕ) → x < 2 → ones x ≡ x
unfolding ones
digit_ones zero h = refl
digit_ones (suc zero) h = refl
digit_ones (suc (suc x)) h = absurd (omega arith)

-- the ones of a number are its bits
pub ones_size : (n x : ℕ) → x < 2 ^ n → ones x ≡ size n (bit x)
unfolding size ones
ones_size zero x h = let e : x ≡ 0 = omega arith in rw e
ones_size (suc n) x h =
    let q : x / 2 ^ n < 2 = (div-lt_iff_lt-mul (pow_pos n)).1 (omega (arith, pow-suc 2 n)) in
    let r : x % 2 ^ n < 2 ^ n = mod-lt x (pow_pos n) in
    let low : size n (bit (x % 2 ^ n)) ≡ size n (bit x) =
    size_cong n (bit (x % 2 ^ n)) (bit x) (λ j l. sym (bit_low n (x / 2 ^ n) (x % 2 ^ n) j l) ∙ ap (λ (y : ℕ). bit y j) (split x n)) in
    let top : eqb (x / 2 ^ n) 1 ≡ bit x n = sym (bit_top n (x / 2 ^ n) (x % 2 ^ n) r q) ∙ ap (λ (y : ℕ). bit y n) (split x n) in
    let one : ones (x / 2 ^ n) ≡ digit (bit x n) = digit_ones (x / 2 ^ n) q ∙ is_digit (x / 2 ^ n) q ∙ ap digit top in
    ap ones (sym (split x n)) ∙ ones_cat n (x / 2 ^ n) (x % 2 ^ n) r ∙ rw (one, ones_size n (x % 2 ^ n) r, low) (add_comm (digit (bit x n)) (size n (bit x)))
