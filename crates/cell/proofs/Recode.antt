-- The laws of digits put through a function, each once over the bases, the function and the count of digits. Assumes nothing.
use Prim.Native.Nat.{ℕ, zero, suc, ◌+◌, ◌*◌, ◌-◌, ◌/◌, ◌%◌, ◌^◌, ◌≤◌, ◌<◌}
use mathlib.Core.Path.{◌≡◌, refl, ap, ◌∙◌}
use native.Mathlib.Nat.{zero-add, add-suc, suc-add, add_assoc, add-mul, mul_assoc, zero-mul, pow-zero, pow-suc, pow-succ', one-le-pow}
use native.Mathlib.Nat.{zero-div, zero-mod, div-one, div-eq_of_lt, div-div-eq-div-mul, mod-lt}
use native.Mathlib.Omega.{arith}
use lib.Arith.{digits_lt, digits_div, digits_mod, mod-mul}
use Rattle.cell.specs.inside.Bits.{recode}

module _ (B C : ℕ) (f : ℕ → ℕ) where
  -- the digits of 0
  pub recode_zero : f 0 ≡ 0 → (k : ℕ) → recode B C f k 0 ≡ 0
  unfolding recode
  recode_zero h zero = refl
  recode_zero h (suc k) = rw (zero-div B, zero-mod B, recode_zero h k, h, zero-mul C)

  -- the i lowest digits, and the j above them
  pub recode_apart : (i j x : ℕ) → recode B C f (i + j) x ≡ recode B C f j (x / B ^ i) * C ^ i + recode B C f i x
  unfolding recode
  recode_apart zero j x = rw (zero-add, pow-zero, pow-zero, div-one) (omega arith)
  recode_apart (suc i) j x =
      let r = recode B C f j (x / B ^ suc i) in
      let s = recode B C f i (x / B) in
      let q : x / B / B ^ i ≡ x / B ^ suc i = rw (pow-succ', div-div-eq-div-mul) in
      let e : (r * C ^ i + s) * C ≡ r * C ^ suc i + s * C = rw (pow-suc C i, add-mul, mul_assoc) in
      rw (suc-add, recode_apart i j (x / B), q, e) (add_assoc (r * C ^ suc i) (s * C) (f (x % B)))

  -- what stands above the i lowest digits does not matter
  pub recode_low : 0 < B → (i x : ℕ) → recode B C f i (x % B ^ i) ≡ recode B C f i x
  unfolding recode
  recode_low h zero x = refl
  recode_low h (suc i) x =
      let m = mod-mul x {m = B ^ i} {c = B} (one-le-pow i B h) h in
      let l = mod-lt x h in
      rw (pow-suc B i, m, digits_div (x / B % B ^ i) l, digits_mod (x / B % B ^ i) l, recode_low h i (x / B))

  -- digits below C are a number of their count in base C
  pub recode_lt : 0 < B → ((d : ℕ) → d < B → f d < C) → (k x : ℕ) → recode B C f k x < C ^ k
  unfolding recode
  recode_lt h l zero x = rw (pow-zero C) (omega arith)
  recode_lt h l (suc k) x = rw (pow-suc C k) (digits_lt (recode_lt h l k (x / B)) (l (x % B) (mod-lt x h)))

  -- the i lowest of w digits
  pub recode_cut : 0 < B → ((d : ℕ) → d < B → f d < C) → (i w x : ℕ) → i ≤ w → recode B C f w x % C ^ i ≡ recode B C f i x
  recode_cut h l i w x le =
      let e : w ≡ i + (w - i) = omega arith in
      ap (λ (n : ℕ). recode B C f n x % C ^ i) e
      ∙ rw (recode_apart i (w - i) x) (digits_mod (recode B C f (w - i) (x / B ^ i)) (recode_lt h l i x))

  -- a number of i digits has no more
  pub recode_more : f 0 ≡ 0 → (i w x : ℕ) → i ≤ w → x < B ^ i → recode B C f w x ≡ recode B C f i x
  recode_more h i w x le l =
      let e : w ≡ i + (w - i) = omega arith in
      ap (λ (n : ℕ). recode B C f n x) e
      ∙ rw (recode_apart i (w - i) x, div-eq_of_lt l, recode_zero h (w - i), zero-mul) (zero-add (recode B C f i x))

  -- two digits at a time
  pub recode_pairs : 0 < B → (j x : ℕ) → recode B C f (j + j) x ≡ recode (B * B) (C * C) (λ y. f (y / B) * C + f (y % B)) j x
  unfolding recode
  recode_pairs h zero x = refl
  recode_pairs h (suc j) x =
      let l = mod-lt x h in
      let q = x / B % B in
      let R = recode B C f (j + j) (x / (B * B)) in
      rw (add-suc (suc j) j, suc-add j j, mod-mul x {m = B} {c = B} h h, digits_div q l, digits_mod q l, div-div-eq-div-mul x B B, ← (recode_pairs h j (x / (B * B))))
      (rw (add-mul, mul_assoc) (add_assoc (R * (C * C)) (f q * C) (f (x % B))))

  pub recode_two : (x : ℕ) → recode B C f 2 x ≡ f (x / B % B) * C + f (x % B)
  unfolding recode
  recode_two x = rw (zero-mul, zero-add)
