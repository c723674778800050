-- The laws of positions, each once over the level k. They are what the crates above cite.
-- Assumes nothing.
use Prim.Native.Nat.{ℕ, zero, suc, ◌+◌, ◌*◌, ◌-◌, ◌/◌, ◌%◌, ◌^◌, ◌≤◌, ◌<◌}
use mathlib.Core.Path.{◌≡◌, refl, sym, ap, ap₂, ◌∙◌}
use mathlib.Core.Bool.{Bool, true, false, cond}
use native.Mathlib.Nat.{div-add-mod', mod-mod, mul-add-mod_self_right, mul-div_cancel, mul-div-mul_right, mod-eq_of_lt, mod-lt}
use native.Mathlib.Nat.{mul-lt-mul_of_pos_left, mul-lt-mul_of_pos_right, lt_of_mul-lt-mul_right, mul_assoc, mul_comm, add-mul, pow-suc}
use native.Mathlib.Omega.{arith}
use lib.Dec.{ltb, eqb}
use lib.ListN.{get_or}
use lib.Arith.{digits_div, digits_mod, lt_of_le-ne}
use lib.Pow.{pow-add, pow_pos, pow_mono}
use lib.Signed.{lt_z}
use lib.IntN.{ℤ, pos, negsuc, nat_abs, ◌+ℤ◌, sub_ℕ}
use borrow.Author.Tests.{lt-ltb, le-ltb, lt-leb, ne_eqb, leb-false, ltb-true, ltb-false, eqb-true, eqb-false}
use Rattle.refusal.proofs.Tests.{clash}
use Rattle.cell.specs.Cell.{Place, Triangle, up, down, Occurs, span, child, children, number, digits, max_level}
use Rattle.cell.proofs.Laws.{digit_cases, as_child_child, shifted}
use Rattle.position.specs.Position.{q, latitude_out, longitude_out, beginnings, beginning, from_west, north_octant, offset, octant}
use Rattle.position.specs.Position.{scaled_t, scaled_r, Holds, holder, triangle_at, place_at}

-- ---- longitudes

-- a longitude in range is below a whole turn, counted from the west
pub from_west_lem : (x : ℤ) → longitude_out x ≡ false → (x +ℤ pos (2 * q) ≡ pos (from_west x)) × (from_west x < 4 * q)
unfolding from_west
from_west_lem (pos n) h = (refl, omega (arith, leb-false (2 * q) n h))
from_west_lem (negsuc n) h = let b = leb-false (2 * q) n h in rw (le-ltb (2 * q) (suc n) (omega arith)) (refl, omega arith)

-- the northern octant of a longitude is below 4, and its offset below a quarter of a turn
pub north_octant_below : (x : ℤ) → north_octant x < 4
unfolding north_octant
north_octant_below x = omega arith

pub offset_below : (x : ℤ) → offset x < q
unfolding offset
offset_below x = omega arith

-- what is known of the longitude at offset m in octant i of the northern four: it is in range, in that octant, at that offset
record East (i m : ℕ) (x : ℤ) : Type 0 where
  inside : longitude_out x ≡ false
  west : from_west x ≡ (i + 2) % 4 * q + m

-- a negative beginning and an offset
west_sum : (w m : ℕ) → m < w → negsuc (w - 1) +ℤ pos m ≡ negsuc (w - suc m)
west_sum w m h = let e : suc (w - 1) ≡ w = omega arith in rw (e, lt-ltb m w h)

east_of : (m : ℕ) → m < q → (i : ℕ) → i < 4 → East i m (get_or beginnings i (pos 0) +ℤ pos m)
unfolding from_west
east_of m h = digit_cases _
    (record { inside = lt-leb (2 * q) (0 + m) (omega arith); west = omega arith })
    (record { inside = lt-leb (2 * q) (q + m) (omega arith); west = omega arith })
    (rw (west_sum (2 * q) m (omega arith)) (record {
      inside = lt-leb (2 * q) (2 * q - suc m) (omega arith);
      west = rw (le-ltb (2 * q) (suc (2 * q - suc m)) (omega arith)) (omega arith);
    }))
    (rw (west_sum q m h) (record {
      inside = lt-leb (2 * q) (q - suc m) (omega arith);
      west = rw (le-ltb (2 * q) (suc (q - suc m)) (omega arith)) (omega arith);
    }))

-- the longitude at an offset from an octant's beginning is in range, in that octant, at that offset
pub beginning_inside : (o m : ℕ) → m < q → longitude_out (beginning o +ℤ pos m) ≡ false
unfolding beginning
beginning_inside o m h = (east_of m h (o % 4) (omega arith)).inside

pub beginning_octant : (o m : ℕ) → m < q → north_octant (beginning o +ℤ pos m) ≡ o % 4
unfolding beginning north_octant
beginning_octant o m h = rw (east_of m h (o % 4) (omega arith)).west (omega arith)

pub beginning_offset : (o m : ℕ) → m < q → offset (beginning o +ℤ pos m) ≡ m
unfolding beginning offset
beginning_offset o m h = rw (east_of m h (o % 4) (omega arith)).west (omega arith)

-- a longitude in range is its octant's beginning and its offset
counted : (w : ℕ) (i : ℕ) → i < 4 → w / q ≡ i → get_or beginnings ((i + 2) % 4) (pos 0) +ℤ pos (w % q) ≡ sub_ℕ w (2 * q)
counted w = digit_cases _
    (λ e. rw (west_sum (2 * q) (w % q) (omega arith), lt-ltb w (2 * q) (omega arith)) (ap negsuc (omega arith)))
    (λ e. rw (west_sum q (w % q) (omega arith), lt-ltb w (2 * q) (omega arith)) (ap negsuc (omega arith)))
    (λ e. rw (le-ltb w (2 * q) (omega arith)) (ap pos (omega arith)))
    (λ e. rw (le-ltb w (2 * q) (omega arith)) (ap pos (omega arith)))

uncounted : (x : ℤ) → longitude_out x ≡ false → sub_ℕ (from_west x) (2 * q) ≡ x
unfolding from_west
uncounted (pos n) h = rw (le-ltb (n + 2 * q) (2 * q) (omega arith)) (ap pos (omega arith))
uncounted (negsuc n) h =
    let b = leb-false (2 * q) n h in
    rw (le-ltb (2 * q) (suc n) (omega arith), lt-ltb (2 * q - suc n) (2 * q) (omega arith)) (ap negsuc (omega arith))

pub beginning_and_offset : (x : ℤ) → longitude_out x ≡ false → beginning (north_octant x) +ℤ pos (offset x) ≡ x
unfolding beginning north_octant offset
beginning_and_offset x h =
    let w = from_west x in
    rw (mod-mod (w / q + 2) 4) (counted w (w / q) (omega (arith, (from_west_lem x h).1)) refl ∙ uncounted x h)

-- a negative latitude adds 4
pub octant_south : (y x : ℤ) → lt_z y (pos 0) ≡ true → octant y x ≡ north_octant x + 4
unfolding octant
octant_south (pos n) x h = absurd (omega (arith, ltb-true n 0 h))
octant_south (negsuc n) x h = refl

pub octant_north : (y x : ℤ) → lt_z y (pos 0) ≡ false → octant y x ≡ north_octant x
unfolding octant
octant_north (pos n) x h = refl
octant_north (negsuc n) x h = clash refl h

octant_below : (y x : ℤ) → octant y x < 8
unfolding octant
octant_below (pos n) x = omega (arith, north_octant_below x)
octant_below (negsuc n) x = omega (arith, north_octant_below x)

-- ---- which triangle holds a point (T, R) of units 1/Q

-- what a triangle holds, and the triangle of the whole parts and what is left over: `Holds` and `holder` are these at Q = q²
abbrev pub HoldsAt : ℕ → ℕ → ℕ → Triangle → Type 0
HoldsAt Q t r (up a b) = (a * Q ≤ t) × (b * Q ≤ r) × (t + r < (a + b + 1) * Q)
HoldsAt Q t r (down a b) = (t < (a + 1) * Q) × (r < (b + 1) * Q) × ((a + b + 1) * Q ≤ t + r)

abbrev holder_at : ℕ → ℕ → ℕ → Triangle
holder_at Q t r = cond (ltb (t % Q + r % Q) Q) (up (t / Q) (r / Q)) (down (t / Q) (r / Q))

-- a point in the triangle's row and column is told from its whole parts
whole_part : (Q t a : ℕ) → a * Q ≤ t → t < (a + 1) * Q → (t / Q ≡ a) × (t % Q ≡ t - a * Q)
whole_part Q t a l h =
    let e : t ≡ a * Q + (t - a * Q) = omega arith in
    let b : t - a * Q < Q = omega arith in
    (ap (λ (x : ℕ). x / Q) e ∙ digits_div a b, ap (λ (x : ℕ). x % Q) e ∙ digits_mod a b)

-- no other triangle holds it
point_unique : (Q t r : ℕ) (f : Triangle) → HoldsAt Q t r f → f ≡ holder_at Q t r
point_unique Q t r (up a b) h =
    let T = whole_part Q t a h.0 (omega arith) in
    let R = whole_part Q r b h.1 (omega arith) in
    rw (T.0, T.1, R.0, R.1, lt-ltb (t - a * Q + (r - b * Q)) Q (omega arith))
point_unique Q t r (down a b) h =
    let T = whole_part Q t a (omega arith) h.0 in
    let R = whole_part Q r b (omega arith) h.1 in
    rw (T.0, T.1, R.0, R.1, le-ltb (t - a * Q + (r - b * Q)) Q (omega arith))

-- and that triangle holds it
point_held : (Q t r : ℕ) → 0 < Q → HoldsAt Q t r (holder_at Q t r)
point_held Q t r h = by-rest (ltb (t % Q + r % Q) Q) refl
  where
    parts : (t / Q * Q + t % Q ≡ t) × (r / Q * Q + r % Q ≡ r) × (t % Q < Q) × (r % Q < Q)
    parts = (div-add-mod' t Q, div-add-mod' r Q, mod-lt t h, mod-lt r h)

    by-rest : (b : Bool) → ltb (t % Q + r % Q) Q ≡ b → HoldsAt Q t r (cond b (up (t / Q) (r / Q)) (down (t / Q) (r / Q)))
    by-rest true e = omega (arith, parts, ltb-true (t % Q + r % Q) Q e)
    by-rest false e = omega (arith, parts, ltb-false (t % Q + r % Q) Q e)

-- ---- the cell answered holds the position, and no other triangle does

pub held_holds : (k p m : ℕ) (f : Triangle) → HoldsAt (q * q) (scaled_t k p) (scaled_r k p m) f → Holds k p m f
unfolding Holds
held_holds k p m (up a b) h = omega arith
held_holds k p m (down a b) h = omega arith

pub holder_holds : (k p m : ℕ) → Holds k p m (holder k p m)
unfolding holder
holder_holds k p m = held_holds k p m (holder k p m) (point_held (q * q) (scaled_t k p) (scaled_r k p m) (omega arith))

pub holds_holder : (k p m : ℕ) (f : Triangle) → Holds k p m f → f ≡ holder k p m
unfolding Holds holder
holds_holder k p m (up a b) h = point_unique (q * q) (scaled_t k p) (scaled_r k p m) (up a b) h
holds_holder k p m (down a b) h = point_unique (q * q) (scaled_t k p) (scaled_r k p m) (down a b) h

pub holds_unique : (k p m : ℕ) (f g : Triangle) → Holds k p m f → Holds k p m g → f ≡ g
holds_unique k p m f g h i = holds_holder k p m f h ∙ sym (holds_holder k p m g i)

-- below the pole the triangle is the holder, at the pole the octant's last row
triangle_off : (k p m : ℕ) → eqb p q ≡ false → triangle_at k p m ≡ holder k p m
unfolding triangle_at
triangle_off k p m e = rw e

pub triangle_below : (k p m : ℕ) → p < q → triangle_at k p m ≡ holder k p m
triangle_below k p m h = triangle_off k p m (ne_eqb p q (λ e. omega arith))

pub triangle_pole : (k m : ℕ) → triangle_at k q m ≡ up (2 ^ k - 1) 0
unfolding triangle_at
triangle_pole k m = refl

-- below the pole T + R stays below N
sum_below : (n p m d : ℕ) → 0 < n → 0 < d → m < p + d → n * p * (p + d) + n * m * d < n * ((p + d) * (p + d))
sum_below n p m d hn hd hm = omega (arith, mul-lt-mul_of_pos_left (mul-lt-mul_of_pos_right hm hd) hn)

held_span : (Q n t r : ℕ) (f : Triangle) → HoldsAt Q t r f → t + r < n * Q → span f ≤ n
unfolding span
held_span Q n t r (up a b) h l = let s : a + b < n = lt_of_mul-lt-mul_right Q (omega arith) in omega arith
held_span Q n t r (down a b) h l = let s : a + b + 1 < n = lt_of_mul-lt-mul_right Q (omega arith) in omega arith

holder_span : (k p m : ℕ) → p < q → m < q → span (holder k p m) ≤ 2 ^ k
unfolding holder scaled_t scaled_r
holder_span k p m h i =
    let e : p + (q - p) ≡ q = omega arith in
    let b = rw e at (sum_below (2 ^ k) p m (q - p) (pow_pos k) (omega arith) (omega arith)) in
    held_span (q * q) (2 ^ k) (scaled_t k p) (scaled_r k p m) (holder k p m) (point_held (q * q) (scaled_t k p) (scaled_r k p m) (omega arith)) b

pole_span : (k : ℕ) → span (up (2 ^ k - 1) 0) ≤ 2 ^ k
unfolding span
pole_span k = omega (arith, pow_pos k)

pub triangle_at_span : (k p m : ℕ) → p ≤ q → m < q → span (triangle_at k p m) ≤ 2 ^ k
triangle_at_span k p m h i = at_pole (eqb p q) refl
  where
    at_pole : (b : Bool) → eqb p q ≡ b → span (triangle_at k p m) ≤ 2 ^ k
    at_pole true e = rw (eqb-true p q e, triangle_pole k m) (pole_span k)
    at_pole false e = rw (triangle_below k p m (lt_of_le-ne h (eqb-false p q e))) (holder_span k p m (lt_of_le-ne h (eqb-false p q e)) i)

-- the place of a position in range occurs at its level
pub place_at_occurs : (k : ℕ) (y x : ℤ) → latitude_out y ≡ false → Occurs k (place_at k y x)
unfolding place_at
place_at_occurs k y x h = (octant_below y x, triangle_at_span k (nat_abs y) (offset x) (ltb-false q (nat_abs y) h) (offset_below x))

-- ---- a product past 64 bits

-- what is left over of a fraction whose two parts are taken w times
times_rest : (x u w : ℕ) → 0 < u → 0 < w → x * w % (u * w) ≡ x % u * w
times_rest x u w hu hw =
    let e : (x / u * u + x % u) * w ≡ x * w = ap (λ (y : ℕ). y * w) (div-add-mod' x u) in
    let f : x * w ≡ x / u * (u * w) + x % u * w = omega (arith, add-mul (x / u * u) (x % u) w, mul_assoc (x / u) u w) in
    rw (f, mul-add-mod_self_right (x / u) (u * w) (x % u * w)) (mod-eq_of_lt (mul-lt-mul_of_pos_right (mod-lt x hu) hw))

-- q² in parts of 2^k, to level 14: a third of it is so many of them
pub square_third : ℕ → ℕ
square_third k = 164794921875 * 2 ^ (max_level - k)

pub square_third_lem : (k : ℕ) → k ≤ max_level → q * q / 3 ≡ square_third k * 2 ^ k
unfolding square_third
square_third_lem k h =
    let e = pow-add 2 (max_level - k) k in
    let f : max_level - k + k ≡ max_level = omega arith in
    ap (λ (x : ℕ). 164794921875 * x) (rw f at e) ∙ sym (mul_assoc 164794921875 (2 ^ (max_level - k)) (2 ^ k))

square_parts : (k : ℕ) → k ≤ max_level → q * q ≡ q * q / 2 ^ k * 2 ^ k
square_parts k h =
    let e : q * q ≡ 3 * square_third k * 2 ^ k = ap (λ (x : ℕ). 3 * x) (square_third_lem k h) ∙ sym (mul_assoc 3 (square_third k) (2 ^ k)) in
    rw e (ap (λ (x : ℕ). x * 2 ^ k) (sym (mul-div_cancel (3 * square_third k) {n = 2 ^ k} (pow_pos k))))

-- n · x / q², n = 2^k: its whole part and its rest, by q² / n
module _ (k x : ℕ) (h : k ≤ max_level) where
  pub share_positive : 0 < q * q / 2 ^ k
  share_positive = div-pos-of (q * q / 2 ^ k) refl
    where
      div-pos-of : (u : ℕ) → q * q / 2 ^ k ≡ u → 0 < u
      div-pos-of zero e = absurd (omega (arith, square_parts k h, ap (λ (y : ℕ). y * 2 ^ k) e))
      div-pos-of (suc u) e = omega arith

  pub share_whole : x / (q * q / 2 ^ k) ≡ 2 ^ k * x / (q * q)
  share_whole =
      sym (ap (λ (y : ℕ). 2 ^ k * x / y) (square_parts k h) ∙ ap (λ (y : ℕ). y / (q * q / 2 ^ k * 2 ^ k)) (mul_comm (2 ^ k) x)
      ∙ mul-div-mul_right x (q * q / 2 ^ k) (pow_pos k))

  pub share_rest : x % (q * q / 2 ^ k) * 2 ^ k ≡ 2 ^ k * x % (q * q)
  share_rest =
      sym (ap (λ (y : ℕ). 2 ^ k * x % y) (square_parts k h) ∙ ap (λ (y : ℕ). y % (q * q / 2 ^ k * 2 ^ k)) (mul_comm (2 ^ k) x)
      ∙ times_rest x (q * q / 2 ^ k) (2 ^ k) share_positive (pow_pos k))

  pub share_fits : x % (q * q / 2 ^ k) * 2 ^ k < q * q
  share_fits = rw share_rest (mod-lt (2 ^ k * x) (omega arith))

-- ---- the triangle of a position, as the code computes it

-- N as the code shifts it, and its bounds
pub rows_shifted : (k : ℕ) → k ≤ max_level → let n = 1 * 2 ^ k % 2 ^ 64 in (n ≡ 2 ^ k) × (1 ≤ n) × (n ≤ 2 ^ max_level)
rows_shifted k h = rw (shifted 64 k (omega arith)) (refl, pow_pos k, pow_mono {i = k} {j = max_level} h)

-- T = x·w over w², x = N·p: its whole part and its rest
row_whole : (x w : ℕ) → 0 < w → x * w / (w * w) ≡ x / w
row_whole x w h = mul-div-mul_right x w h

row_rest : (x w : ℕ) → 0 < w → x * w % (w * w) ≡ x % w * w
row_rest x w h = times_rest x w w h h

-- row and column with what is left over of both
module _ (k p m n : ℕ) (e : n ≡ 2 ^ k) where
  pub holder-at :
      let a = n * p / q in
      let b = n * (m * (q - p)) / (q * q) in
      holder k p m ≡ cond (ltb (n * p % q * q + n * (m * (q - p)) % (q * q)) (q * q)) (up a b) (down a b)
  unfolding holder scaled_t scaled_r
  holder-at = rw (row_whole (2 ^ k * p) q (omega arith), row_rest (2 ^ k * p) q (omega arith), mul_assoc (2 ^ k) m (q - p), e)

-- ---- nesting: the cells of a position at all levels

-- a place that is a child of another, as the place of a position at level k + 1 is of its place at level k
pub record Nested (c d : Place) : Type 0 where
  pub digit : ℕ
  pub below : digit < 4
  pub same : d ≡ (c.0, child c.1 digit)

-- of what a triangle holds, each point is held by one of its children at twice the scale
record ChildHolds (Q t r : ℕ) (f : Triangle) : Type 0 where
  digit : ℕ
  below : digit < 4
  held : HoldsAt Q (2 * t) (2 * r) (child f digit)

child_up : (Q t r a b : ℕ) → HoldsAt Q t r (up a b) → (u v w : Bool) →
    ltb (2 * t) ((2 * a + 1) * Q) ≡ u → ltb (2 * r) ((2 * b + 1) * Q) ≡ v →
    ltb (2 * t + 2 * r) ((2 * a + 2 * b + 1) * Q) ≡ w → ChildHolds Q t r (up a b)
unfolding child children
child_up Q t r a b h false v w eu ev ew = record { digit = 1; below = omega arith; held = omega (arith, ltb-true, ltb-false) }
child_up Q t r a b h true false w eu ev ew = record { digit = 3; below = omega arith; held = omega (arith, ltb-true, ltb-false) }
child_up Q t r a b h true true true eu ev ew = record { digit = 2; below = omega arith; held = omega (arith, ltb-true, ltb-false) }
child_up Q t r a b h true true false eu ev ew = record { digit = 0; below = omega arith; held = omega (arith, ltb-true, ltb-false) }

child_down : (Q t r a b : ℕ) → HoldsAt Q t r (down a b) → (u v w : Bool) →
    ltb (2 * t) ((2 * a + 1) * Q) ≡ u → ltb (2 * r) ((2 * b + 1) * Q) ≡ v →
    ltb (2 * t + 2 * r) ((2 * a + 2 * b + 3) * Q) ≡ w → ChildHolds Q t r (down a b)
unfolding child children
child_down Q t r a b h true v w eu ev ew = record { digit = 1; below = omega arith; held = omega (arith, ltb-true, ltb-false) }
child_down Q t r a b h false true w eu ev ew = record { digit = 2; below = omega arith; held = omega (arith, ltb-true, ltb-false) }
child_down Q t r a b h false false true eu ev ew = record { digit = 0; below = omega arith; held = omega (arith, ltb-true, ltb-false) }
child_down Q t r a b h false false false eu ev ew = record { digit = 3; below = omega arith; held = omega (arith, ltb-true, ltb-false) }

child_holds : (Q t r : ℕ) (f : Triangle) → HoldsAt Q t r f → ChildHolds Q t r f
child_holds Q t r (up a b) h = child_up Q t r a b h _ _ _ refl refl refl
child_holds Q t r (down a b) h = child_down Q t r a b h _ _ _ refl refl refl

-- a triangle that is a child of another
record ChildOf (f g : Triangle) : Type 0 where
  digit : ℕ
  below : digit < 4
  same : g ≡ child f digit

doubled : (k x y : ℕ) → 2 * (2 ^ k * x * y) ≡ 2 ^ suc k * x * y
doubled k x y = rw (pow-suc 2 k) (omega arith)

holder_nested : (k p m : ℕ) → ChildOf (holder k p m) (holder (suc k) p m)
unfolding holder scaled_t scaled_r
holder_nested k p m =
    let n = child_holds (q * q) (scaled_t k p) (scaled_r k p m) (holder k p m) (point_held (q * q) (scaled_t k p) (scaled_r k p m) (omega arith)) in
    let e : 2 * scaled_t k p ≡ scaled_t (suc k) p = doubled k p q in
    let f : 2 * scaled_r k p m ≡ scaled_r (suc k) p m = doubled k m (q - p) in
    record {
      digit = n.digit;
      below = n.below;
      same = sym (point_unique (q * q) (scaled_t (suc k) p) (scaled_r (suc k) p m) (child (holder k p m) n.digit) (rw (e, f) at n.held));
    }

pole_nested : (k : ℕ) → ChildOf (up (2 ^ k - 1) 0) (up (2 ^ suc k - 1) 0)
unfolding child children
pole_nested k = record { digit = 1; below = omega arith; same = ap₂ up (omega (arith, pow-suc 2 k, pow_pos k)) refl }

triangle_nested : (k p m : ℕ) → ChildOf (triangle_at k p m) (triangle_at (suc k) p m)
triangle_nested k p m = at_pole (eqb p q) refl
  where
    at_pole : (b : Bool) → eqb p q ≡ b → ChildOf (triangle_at k p m) (triangle_at (suc k) p m)
    at_pole true e = rw (eqb-true p q e, triangle_pole k m, triangle_pole (suc k) m) (pole_nested k)
    at_pole false e = rw (triangle_off k p m e, triangle_off (suc k) p m e) (holder_nested k p m)

-- the place of a position at the next level is a child of its place at this one, at the poles too
pub place_nested : (k : ℕ) (y x : ℤ) → Nested (place_at k y x) (place_at (suc k) y x)
unfolding place_at
place_nested k y x =
    let f = triangle_nested k (nat_abs y) (offset x) in
    record { digit = f.digit; below = f.below; same = ap (λ (g : Triangle). (octant y x, g)) f.same }

-- so its number there begins with the number here
pub number_child : (k o d : ℕ) (f : Triangle) → d < 4 → number (suc k) (o, child f d) ≡ 4 * number k (o, f) + d
unfolding number digits
number_child k o d f h = rw (as_child_child f d h, pow-suc 4 k) (omega arith)

pub number_nested : (k : ℕ) (y x : ℤ) → number (suc k) (place_at (suc k) y x) / 4 ≡ number k (place_at k y x)
number_nested k y x =
    let n = place_nested k y x in
    let c = place_at k y x in
    rw (n.same, number_child k c.0 n.digit c.1 n.below) (omega (arith, n.below))
