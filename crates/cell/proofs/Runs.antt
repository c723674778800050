-- Runs of bits put apart and together by a shift and a mask: one law for a step that halves or doubles the runs, over their width w
-- and the count j of the slots that they stand in. Assumes nothing.
use Prim.Native.Nat.{ℕ, zero, suc, ◌+◌, ◌*◌, ◌-◌, ◌/◌, ◌%◌, ◌^◌, ◌≤◌, ◌<◌}
use mathlib.Core.Path.{◌≡◌, refl, sym, ap, ◌∙◌}
use native.Mathlib.Nat.{zero-add, add-zero, add-suc, suc-add, add_assoc, add-mul, mul_assoc, mul_comm, zero-mul, mul_right_comm, pow-suc}
use native.Mathlib.Nat.{lt_of_le_of_lt, lt_of_lt_of_le, div-eq_of_lt, mul-add-div_right, mul-add-mod_self_right, mul-mod_left, mod-eq_of_lt, mod-lt, div-add-mod'}
use native.Mathlib.Omega.{arith}
use lib.Arith.{digits_lt}
use lib.Pow.{pow_pos, pow-add, pow_mono, ones_lt, shl_lt, shr_lt, low, split}
use lib.Bits.{bit_and, bit_or, and_zero_r, or_zero_r, and_le_r, and_mask, and_mod, or_mod, and_block, or_block, or_lt, or_shifted_r}
use Rattle.cell.specs.inside.Bits.{recode, evens}
use Rattle.cell.proofs.Recode.{recode_apart, recode_low, recode_pairs, recode_lt, recode_cut}

-- a mask of r bits sees the r lowest bits alone
pub and_low : (r z m : ℕ) → m < 2 ^ r → bit_and (z % 2 ^ r) m ≡ bit_and z m
and_low r z m h =
    let l : bit_and z m < 2 ^ r = lt_of_le_of_lt (and_le_r z m) h in
    sym (rw (mod-eq_of_lt l, mod-eq_of_lt h) at (and_mod z m r))

-- a number that stands past another beside it
pub or_over : (k u y s : ℕ) → y < 2 ^ k → s < 2 ^ k → bit_or y (u * 2 ^ k + s) ≡ u * 2 ^ k + bit_or y s
or_over k u y s hy hs = rw (zero-mul, zero-add) at (or_block k 0 u y s hy hs)

-- the mask m in each of j slots
unfoldable pub masks : ℕ → ℕ → ℕ → ℕ
masks R m zero = 0
masks R m (suc j) = masks R m j * R + m

-- a step that works on each slot apart
slots : (step : ℕ → ℕ → ℕ) (R m B : ℕ) (g h : ℕ → ℕ) → 0 < B → step 0 0 ≡ 0 →
    ((M X d : ℕ) → d < B → step (M * R + m) (X * R + g d) ≡ step M X * R + h d) →
    (j x : ℕ) → step (masks R m j) (recode B R g j x) ≡ recode B R h j x
unfolding recode masks
slots step R m B g h p none apart zero x = none
slots step R m B g h p none apart (suc j) x =
    apart (masks R m j) (recode B R g j (x / B)) (x % B) (mod-lt x p)
    ∙ ap (λ (y : ℕ). y * R + h (x % B)) (slots step R m B g h p none apart j (x / B))

-- ---- together

-- x moved down by w bits beside itself, masked
abbrev pub closer : ℕ → ℕ → ℕ → ℕ
closer w m x = bit_and (bit_or x (x / 2 ^ w)) m

-- on each slot apart: what comes down from the slot above is masked
closer_apart : (w r M m X Y : ℕ) → m < 2 ^ r → Y < 2 ^ (r + w) →
    closer w (M * 2 ^ (r + w) + m) (X * 2 ^ (r + w) + Y) ≡ closer w M X * 2 ^ (r + w) + closer w m Y
closer_apart w r M m X Y hm hY =
    let s = X % 2 ^ w * 2 ^ r + Y / 2 ^ w in
    let K : 2 ^ (r + w) ≡ 2 ^ w * 2 ^ r = rw pow-add (mul_comm (2 ^ r) (2 ^ w)) in
    let x : X * 2 ^ (r + w) ≡ X * 2 ^ r * 2 ^ w = rw (pow-add, mul_assoc) in
    let y : X * 2 ^ r ≡ X / 2 ^ w * 2 ^ (r + w) + X % 2 ^ w * 2 ^ r = ap (λ (q : ℕ). q * 2 ^ r) (sym (split X w)) ∙ rw (add-mul, K, mul_assoc) in
    let e : (X * 2 ^ (r + w) + Y) / 2 ^ w ≡ X / 2 ^ w * 2 ^ (r + w) + s = rw (x, mul-add-div_right (pow_pos w) (X * 2 ^ r) Y, y) (add_assoc (X / 2 ^ w * 2 ^ (r + w)) (X % 2 ^ w * 2 ^ r) (Y / 2 ^ w)) in
    let l : s < 2 ^ (r + w) = rw K (digits_lt (mod-lt X (pow_pos w)) (shr_lt r w hY)) in
    let mk : m < 2 ^ (r + w) = lt_of_lt_of_le hm (pow_mono {i = r} {j = r + w} (omega arith)) in
    let p : bit_or Y s % 2 ^ r ≡ bit_or Y (Y / 2 ^ w) % 2 ^ r = rw (or_mod Y s r, mul-add-mod_self_right (X % 2 ^ w) (2 ^ r) (Y / 2 ^ w), or_mod Y (Y / 2 ^ w) r) in
    let t : bit_and (bit_or Y s) m ≡ closer w m Y = sym (and_low r (bit_or Y s) m hm) ∙ rw p (and_low r (bit_or Y (Y / 2 ^ w)) m hm) in
    rw (e, or_block (r + w) X (X / 2 ^ w) Y s hY l, and_block (r + w) (bit_or X (X / 2 ^ w)) M (bit_or Y s) m (or_lt (r + w) Y s hY l) mk, t)

-- two runs w bits apart, side by side
closer_slot : (w u v : ℕ) → u < 2 ^ w → v < 2 ^ w → closer w (2 ^ (w + w) - 1) (u * 2 ^ (w + w) + v) ≡ u * 2 ^ w + v
closer_slot w u v hu hv =
    let x = u * 2 ^ (w + w) + v in
    let big : v < 2 ^ (w + w) = lt_of_lt_of_le hv (pow_mono {i = w} {j = w + w} (omega arith)) in
    let d : x / 2 ^ w ≡ u * 2 ^ w = rw (pow-add, ← (mul_assoc u (2 ^ w) (2 ^ w)), mul-add-div_right (pow_pos w) (u * 2 ^ w) v, div-eq_of_lt hv, add-zero) in
    rw (and_mask (bit_or x (x / 2 ^ w)) (w + w), or_mod x (x / 2 ^ w) (w + w), low u (w + w) big, d, mod-eq_of_lt (shl_lt w w hu)) (or_shifted_r u w v hv)

-- ---- apart

-- x moved up by w bits beside itself, masked
abbrev pub wider : ℕ → ℕ → ℕ → ℕ
wider w m x = bit_and (bit_or x (x * 2 ^ w)) m

-- on each slot apart: nothing goes up into the slot above
wider_apart : (w k M m X Y : ℕ) → m < 2 ^ k → Y < 2 ^ k → Y * 2 ^ w < 2 ^ k →
    wider w (M * 2 ^ k + m) (X * 2 ^ k + Y) ≡ wider w M X * 2 ^ k + wider w m Y
wider_apart w k M m X Y hm hY l =
    let e : (X * 2 ^ k + Y) * 2 ^ w ≡ X * 2 ^ w * 2 ^ k + Y * 2 ^ w = rw (add-mul, mul_right_comm X (2 ^ k) (2 ^ w)) in
    rw (e, or_block k X (X * 2 ^ w) Y (Y * 2 ^ w) hY l, and_block k (bit_or X (X * 2 ^ w)) M (bit_or Y (Y * 2 ^ w)) m (or_lt k Y (Y * 2 ^ w) hY l) hm)

-- a run cut in two, the halves w bits apart
wider_slot : (w y : ℕ) → y < 2 ^ (w + w) → wider w ((2 ^ w - 1) * 2 ^ (w + w) + (2 ^ w - 1)) y ≡ y / 2 ^ w * 2 ^ (w + w) + y % 2 ^ w
wider_slot w y h =
    let u = y / 2 ^ w in
    let v = y % 2 ^ w in
    let hv : v < 2 ^ w = mod-lt y (pow_pos w) in
    let hu : u < 2 ^ w = shr_lt w w h in
    let o : 2 ^ w - 1 < 2 ^ (w + w) = lt_of_lt_of_le (ones_lt w) (pow_mono {i = w} {j = w + w} (omega arith)) in
    let e : y * 2 ^ w ≡ u * 2 ^ (w + w) + v * 2 ^ w = ap (λ (q : ℕ). q * 2 ^ w) (sym (split y w)) ∙ rw (add-mul, pow-add, mul_assoc) in
    let b : bit_or y (y * 2 ^ w) ≡ u * 2 ^ (w + w) + bit_or y (v * 2 ^ w) = rw e (or_over (w + w) u y (v * 2 ^ w) h (shl_lt w w hv)) in
    let z : bit_or y (v * 2 ^ w) % 2 ^ w ≡ v = rw (or_mod y (v * 2 ^ w) w, mul-mod_left v (2 ^ w)) (or_zero_r v) in
    rw (b, and_block (w + w) u (2 ^ w - 1) (bit_or y (v * 2 ^ w)) (2 ^ w - 1) (or_lt (w + w) y (v * 2 ^ w) h (shl_lt w w hv)) o, and_mask u w, and_mask (bit_or y (v * 2 ^ w)) w, mod-eq_of_lt hu, z)

-- ---- on all slots

four_two : (w : ℕ) → 4 ^ w ≡ 2 ^ (w + w)
four_two zero = refl
four_two (suc w) = rw (add-suc (suc w) w, suc-add w w) (omega (arith, pow-suc 4 w, pow-suc 2 (suc (w + w)), pow-suc 2 (w + w), four_two w))

-- two runs of w bits with w bits between them
in-slot : (w k : ℕ) {u v : ℕ} → w + (w + w) ≤ k → u < 2 ^ w → v < 2 ^ w → u * 2 ^ (w + w) + v < 2 ^ k
in-slot w k {u} {v} l hu hv =
    let b : v < 2 ^ (w + w) = lt_of_lt_of_le hv (pow_mono {i = w} {j = w + w} (omega arith)) in
    lt_of_lt_of_le (digits_lt hu b) (rw (← (pow-add 2 w (w + w))) (pow_mono {i = w + (w + w)} {j = k} l))

pub evens_small : (w d : ℕ) → evens w d < 2 ^ w
evens_small = recode_lt 4 2 (λ d. d % 2) (omega arith) (λ d h. omega arith)

pub evens_cut : (k w x : ℕ) → k ≤ w → evens w x % 2 ^ k ≡ evens k x
evens_cut = recode_cut 4 2 (λ d. d % 2) (omega arith) (λ d h. omega arith)

-- runs of w bits, each in a slot of twice the width, two and two put together
pub put_together : (w j n : ℕ) → closer w (masks (2 ^ (w + w + (w + w))) (2 ^ (w + w) - 1) j) (recode (2 ^ (w + w)) (2 ^ (w + w)) (evens w) (j + j) n)
    ≡ recode (2 ^ (w + w + (w + w))) (2 ^ (w + w + (w + w))) (evens (w + w)) j n
put_together w j n =
    rw (recode_pairs (2 ^ (w + w)) (2 ^ (w + w)) (evens w) (pow_pos (w + w)) j n, ← (pow-add 2 (w + w) (w + w)))
    (slots (closer w) R (2 ^ (w + w) - 1) R two (evens (w + w)) (pow_pos (w + w + (w + w))) (and_zero_r (bit_or 0 (0 / 2 ^ w))) apart j n)
  where
    R : ℕ
    R = 2 ^ (w + w + (w + w))

    two : ℕ → ℕ
    two d = evens w (d / 2 ^ (w + w)) * 2 ^ (w + w) + evens w (d % 2 ^ (w + w))

    one : (d : ℕ) → closer w (2 ^ (w + w) - 1) (two d) ≡ evens (w + w) d
    one d =
        closer_slot w (evens w (d / 2 ^ (w + w))) (evens w (d % 2 ^ (w + w))) (evens_small w (d / 2 ^ (w + w))) (evens_small w (d % 2 ^ (w + w)))
        ∙ rw (← (four_two w), recode_low 4 2 (λ d. d % 2) (omega arith) w d) (sym (recode_apart 4 2 (λ d. d % 2) w w d))

    apart : (M X d : ℕ) → d < R → closer w (M * R + (2 ^ (w + w) - 1)) (X * R + two d) ≡ closer w M X * R + evens (w + w) d
    apart M X d h =
        let m : 2 ^ (w + w) - 1 < 2 ^ (w + w + w) = lt_of_lt_of_le (ones_lt (w + w)) (pow_mono {i = w + w} {j = w + w + w} (omega arith)) in
        let l : two d < 2 ^ (w + w + w + w) = in-slot w (w + w + w + w) (omega arith) (evens_small w (d / 2 ^ (w + w))) (evens_small w (d % 2 ^ (w + w))) in
        rw (add_assoc (w + w) w w) at (closer_apart w (w + w + w) M (2 ^ (w + w) - 1) X (two d) m l)
        ∙ ap (λ (y : ℕ). closer w M X * R + y) (one d)

-- runs of 2 × w bits, each in a slot of twice the width, put apart into runs of w
pub put_apart : (w j y : ℕ) → wider w (masks (2 ^ (w + w + (w + w))) ((2 ^ w - 1) * 2 ^ (w + w) + (2 ^ w - 1)) j) (recode (2 ^ (w + w)) (2 ^ (w + w + (w + w))) (λ d. d) j y)
    ≡ recode (2 ^ w) (2 ^ (w + w)) (λ d. d) (j + j) y
put_apart w j y =
    rw (recode_pairs (2 ^ w) (2 ^ (w + w)) (λ d. d) (pow_pos w) j y, ← (pow-add 2 w w), ← (pow-add 2 (w + w) (w + w)))
    (slots (wider w) R m (2 ^ (w + w)) (λ d. d) (λ d. d / 2 ^ w * 2 ^ (w + w) + d % 2 ^ w) (pow_pos (w + w)) (and_zero_r (bit_or 0 (0 * 2 ^ w))) apart j y)
  where
    R : ℕ
    R = 2 ^ (w + w + (w + w))

    m : ℕ
    m = (2 ^ w - 1) * 2 ^ (w + w) + (2 ^ w - 1)

    apart : (M X d : ℕ) → d < 2 ^ (w + w) → wider w (M * R + m) (X * R + d) ≡ wider w M X * R + (d / 2 ^ w * 2 ^ (w + w) + d % 2 ^ w)
    apart M X d h =
        let k = w + w + (w + w) in
        let hm : m < 2 ^ k = in-slot w k (omega arith) (ones_lt w) (ones_lt w) in
        let hd : d < 2 ^ k = lt_of_lt_of_le h (pow_mono {i = w + w} {j = k} (omega arith)) in
        let l : d * 2 ^ w < 2 ^ k = lt_of_lt_of_le (shl_lt (w + w) w h) (pow_mono {i = w + w + w} {j = k} (omega arith)) in
        wider_apart w k M m X d hm hd l ∙ ap (λ (y : ℕ). wider w M X * R + y) (wider_slot w d h)

-- the even bits alone
pub and_evens : (j n : ℕ) → bit_and n (masks 4 1 j) ≡ recode 4 4 (evens 1) j n
unfolding masks recode
and_evens zero n = and_zero_r n
and_evens (suc j) n =
    ap (λ (x : ℕ). bit_and x (masks 4 1 j * 4 + 1)) (sym (div-add-mod' n 4))
    ∙ and_block 2 (n / 4) (masks 4 1 j) (n % 4) 1 (omega arith) (omega arith)
    ∙ rw (and_evens j (n / 4), and_mask (n % 4) 1) (omega arith)
