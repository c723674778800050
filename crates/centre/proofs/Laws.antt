-- The laws of centres, each once over the level k. They are what the crates above cite.
-- Assumes nothing.
use Prim.Native.Nat.{ℕ, zero, suc, ◌+◌, ◌*◌, ◌-◌, ◌/◌, ◌%◌, ◌^◌, ◌≤◌, ◌<◌}
use mathlib.Core.Path.{◌≡◌, refl, sym, ap, ◌∙◌}
use mathlib.Core.Bool.{Bool, true, false, cond}
use native.Mathlib.Nat.{div-lt_iff_lt-mul, le-div_iff_mul-le, mul-div-le, lt-mul-div-succ, mul-div_cancel, mul-div-mul_left, mul_assoc, mul_comm, mul_left_comm}
use native.Mathlib.Nat.{mul-le-mul, mul-le-mul_left, mul-lt-mul_of_pos_left}
use native.Mathlib.Omega.{arith}
use lib.Dec.{ltb}
use lib.Pow.{pow_pos, pow_mono}
use lib.IntN.{ℤ, pos, negsuc, nat_abs, neg_ℤ, ◌+ℤ◌}
use borrow.Author.Tests.{le-ltb, ltb-true, ltb-false}
use Rattle.cell.specs.Cell.{Triangle, up, down, row, col, Place, Occurs, span, max_level, triangle_of, place_of}
use Rattle.cell.specs.declared.Kind.{Kind}
use Rattle.cell.specs.declared.Place as declared
use Rattle.cell.specs.declared.Kind.TheVariants.{Up, Down}
use Rattle.position.specs.Position.{q, longitude_out, beginning, north_octant, octant, scaled_t, scaled_r, Holds, triangle_at, place_at}
use Rattle.position.proofs.Laws.{square_third, square_third_lem, beginning_inside, beginning_octant, beginning_offset, octant_south, octant_north}
use Rattle.position.proofs.Laws.{HoldsAt, held_holds, holds_holder, triangle_below}
use Rattle.centre.specs.Centre.{thirds, centre_p, centre_m, latitude_of, centre}

-- ---- a product past 64 bits

-- to level 14, q² is a whole number of 3N
square_whole : (k : ℕ) → k ≤ max_level → q * q / 3 / 2 ^ k * (3 * 2 ^ k) ≡ q * q
square_whole k h =
    rw (square_third_lem k h, mul-div_cancel (square_third k) {n = 2 ^ k} (pow_pos k))
    (mul_left_comm (square_third k) 3 (2 ^ k) ∙ ap (λ (x : ℕ). 3 * x) (sym (square_third_lem k h)))

-- y · q² / (3N · d), by q² / 3N: y is at most 3N, so that the product is at most q²
pub whole_share : (k y d : ℕ) → k ≤ max_level → y * (q * q / 3 / 2 ^ k) / d ≡ y * (q * q) / (3 * 2 ^ k * d)
whole_share k y d h =
    let w = 3 * 2 ^ k in
    let s = q * q / 3 / 2 ^ k in
    let e : y * (q * q) ≡ w * (y * s) = ap (λ (x : ℕ). y * x) (sym (square_whole k h)) ∙ omega (arith, mul_assoc y s w, mul_comm (y * s) w) in
    let z : 0 < 2 ^ k = pow_pos k in
    rw e (sym (mul-div-mul_left (y * s) d (omega arith)))

-- ---- centres are positions below the pole, off the equator

-- p of x thirds of a row, x below 3N: its two bounds
p_below : (w n x : ℕ) → 0 < w → 0 < n → x < 3 * n → w * x / (3 * n) < w
p_below w n x hw hn h = (div-lt_iff_lt-mul {k = 3 * n} (omega arith)).1 (mul-lt-mul_of_pos_left h hw)

p_positive : (w n x : ℕ) → 0 < n → 3 * n ≤ w → 0 < x → 1 ≤ w * x / (3 * n)
p_positive w n x hn hw h = (le-div_iff_mul-le {k = 3 * n} (omega arith)).1 (omega (arith, mul-le-mul_left w h))

-- m of y thirds of a column is below a quarter, where x and y leave room for one another
m_below : (n x y p d : ℕ) → 0 < n → 0 < d → 3 * n * p ≤ (p + d) * x → x + y < 3 * n → y * ((p + d) * (p + d)) / (3 * n * d) < p + d
m_below n x y p d hn hd hp h =
    let w = p + d in
    let hw : 0 < w = omega arith in
    let hD : 0 < 3 * n * d = omega (arith, mul-le-mul_left (3 * n) hd) in
    let l : w * (x + y) < w * (3 * n) = mul-lt-mul_of_pos_left h hw in
    let i : w * y < 3 * n * d = omega arith in
    (div-lt_iff_lt-mul {k = 3 * n * d} hD).1 (omega (arith, mul-lt-mul_of_pos_left i hw))

-- the whole parts, multiplied out: 3T is at most x·Q and less than half a unit below it
record Near (Q t x : ℕ) : Type 0 where
  top : 3 * t ≤ Q * x
  bottom : 2 * (Q * x) < 6 * t + Q

-- T of the p that is rounded from x thirds, and R of the m that is rounded from y thirds
p_near : (w n x : ℕ) → 0 < n → 6 * n ≤ w → Near (w * w) (n * (w * x / (3 * n)) * w) x
p_near w n x hn hw =
    let p = w * x / (3 * n) in
    let h3 : 0 < 3 * n = omega arith in
    let hw0 : 0 < w = omega arith in
    let t = mul-le-mul_left w (mul-div-le (w * x) (3 * n)) in
    let b = mul-lt-mul_of_pos_left (lt-mul-div-succ (w * x) h3) hw0 in
    let r = mul-le-mul_left w hw in
    record { top = omega arith; bottom = omega arith }

m_near : (n y p d : ℕ) → 0 < n → 0 < d → 6 * n ≤ p + d → Near ((p + d) * (p + d)) (n * (y * ((p + d) * (p + d)) / (3 * n * d)) * d) y
m_near n y p d hn hd hw =
    let w = p + d in
    let D = 3 * n * d in
    let hD : 0 < D = omega (arith, mul-le-mul_left (3 * n) hd) in
    let hdw : d ≤ w = omega arith in
    let t = mul-div-le (y * (w * w)) D in
    let b = lt-mul-div-succ (y * (w * w)) hD in
    let r = mul-le-mul hw hdw in
    record { top = omega arith; bottom = omega arith }

-- the thirds of a triangle that occurs leave room for one another, and are not 0
thirds_fit : (n : ℕ) (f : Triangle) → span f ≤ n → (3 * row f + thirds f) + (3 * col f + thirds f) < 3 * n
unfolding row col thirds span
thirds_fit n (up a b) h = omega arith
thirds_fit n (down a b) h = omega arith

-- p and m are those of a place by its row and column
pub place_parts : (k : ℕ) (kind : Kind) (a b s : ℕ) → s ≡ thirds (triangle_of kind a b) →
    let p = q * (3 * a + s) / (3 * 2 ^ k) in
    (centre_p k (triangle_of kind a b) ≡ p) × (centre_m k (triangle_of kind a b) ≡ (3 * b + s) * (q * q) / (3 * 2 ^ k * (q - p)))
unfolding row col thirds centre_p centre_m
place_parts k Up a b s e = rw e (refl, refl)
place_parts k Down a b s e = rw e (refl, refl)

thirds_positive : (f : Triangle) → 0 < thirds f
unfolding thirds
thirds_positive (up a b) = omega arith
thirds_positive (down a b) = omega arith

-- a point so near the middle of a triangle lies in it
near_triangle : (Q t r : ℕ) (f : Triangle) → 0 < Q → Near Q t (3 * row f + thirds f) → Near Q r (3 * col f + thirds f) → HoldsAt Q t r f
unfolding row col thirds
near_triangle Q t r (up a b) h u v = omega arith
near_triangle Q t r (down a b) h u v = omega arith

-- p and m of the centre that lies x thirds of a row and y thirds of a column in, at N = n
abbrev p_of : ℕ → ℕ → ℕ
p_of n x = q * x / (3 * n)

abbrev m_of : ℕ → ℕ → ℕ → ℕ
m_of n y p = y * (q * q) / (3 * n * (q - p))

module _ (n x y : ℕ) (hn : 0 < n) (h : x + y < 3 * n) where
  p_of_below : p_of n x < q
  p_of_below = p_below q n x (omega arith) hn (omega arith)

  rounded : 3 * n * p_of n x ≤ q * x
  rounded = mul-div-le (q * x) (3 * n)

  p_and_rest : p_of n x + (q - p_of n x) ≡ q
  p_and_rest = omega (arith, p_of_below)

  m_of_below : m_of n y (p_of n x) < q
  m_of_below = rw p_and_rest at (m_below n x y (p_of n x) (q - p_of n x) hn (omega (arith, p_of_below)) (rw p_and_rest rounded) h)

  m_of_near : 6 * n ≤ q → Near (q * q) (n * m_of n y (p_of n x) * (q - p_of n x)) y
  m_of_near hq = rw p_and_rest at (m_near n y (p_of n x) (q - p_of n x) hn (omega (arith, p_of_below)) (rw p_and_rest hq))

-- what is known of a place of the code: the thirds of its row and column, and p and m by them
pub record Middle (k : ℕ) (x y : ℕ) : Type 0 where
  pub few : 2 ^ k ≤ 2 ^ max_level
  pub fit : x + y < 3 * 2 ^ k
  pub low : q * x / (3 * 2 ^ k) < q
  pub east : y * (q * q) / (3 * 2 ^ k * (q - q * x / (3 * 2 ^ k))) < q

thirds_of_place : (n : ℕ) (kind : Kind) (a b s : ℕ) → s ≡ thirds (triangle_of kind a b) → span (triangle_of kind a b) ≤ n → (3 * a + s) + (3 * b + s) < 3 * n
unfolding thirds span
thirds_of_place n Up a b s e h = omega arith
thirds_of_place n Down a b s e h = omega arith

pub middle : (k : ℕ) (p : declared.Place) (s : ℕ) → s ≡ thirds (place_of p).1 → (k ≤ max_level) × Occurs k (place_of p) → Middle k (3 * p.row + s) (3 * p.col + s)
middle k p s e h =
    let fit = thirds_of_place (2 ^ k) p.kind p.row p.col s e h.1.1 in
    record {
      few = pow_mono {i = k} {j = max_level} h.0;
      fit = fit;
      low = p_of_below (2 ^ k) (3 * p.row + s) (3 * p.col + s) (pow_pos k) fit;
      east = m_of_below (2 ^ k) (3 * p.row + s) (3 * p.col + s) (pow_pos k) fit;
    }

pub centre_p_below : (k : ℕ) (f : Triangle) → span f ≤ 2 ^ k → centre_p k f < q
unfolding centre_p
centre_p_below k f h = p_of_below (2 ^ k) (3 * row f + thirds f) (3 * col f + thirds f) (pow_pos k) (thirds_fit (2 ^ k) f h)

pub centre_m_below : (k : ℕ) (f : Triangle) → span f ≤ 2 ^ k → centre_m k f < q
unfolding centre_p centre_m
centre_m_below k f h = m_of_below (2 ^ k) (3 * row f + thirds f) (3 * col f + thirds f) (pow_pos k) (thirds_fit (2 ^ k) f h)

pub centre_p_positive : (k : ℕ) (f : Triangle) → 6 * 2 ^ k ≤ q → 1 ≤ centre_p k f
unfolding centre_p
centre_p_positive k f h = p_positive q (2 ^ k) (3 * row f + thirds f) (pow_pos k) (omega arith) (omega (arith, thirds_positive f))

-- ---- the return: the cell at a cell's centre is the cell

pub centre_held : (k : ℕ) (f : Triangle) → 6 * 2 ^ k ≤ q → span f ≤ 2 ^ k → Holds k (centre_p k f) (centre_m k f) f
unfolding scaled_t scaled_r centre_p centre_m
centre_held k f hq h =
    let x = 3 * row f + thirds f in
    let y = 3 * col f + thirds f in
    held_holds k (centre_p k f) (centre_m k f) f
    (near_triangle (q * q) (scaled_t k (centre_p k f)) (scaled_r k (centre_p k f) (centre_m k f)) f (omega arith)
    (p_near q (2 ^ k) x (pow_pos k) hq)
    (m_of_near (2 ^ k) x y (pow_pos k) (thirds_fit (2 ^ k) f h) hq))

centre_triangle : (k : ℕ) (f : Triangle) → 6 * 2 ^ k ≤ q → span f ≤ 2 ^ k → triangle_at k (centre_p k f) (centre_m k f) ≡ f
centre_triangle k f hq h =
    triangle_below k (centre_p k f) (centre_m k f) (centre_p_below k f h) ∙ sym (holds_holder k (centre_p k f) (centre_m k f) f (centre_held k f hq h))

-- the latitude of size p of an octant below 8: its size, and the octant that its sign makes of the northern one
latitude_size : (o p : ℕ) → nat_abs (latitude_of o p) ≡ p
latitude_size o p = by_side (ltb o 4)
  where
    south : (n : ℕ) → nat_abs (neg_ℤ (pos n)) ≡ n
    south zero = refl
    south (suc n) = refl

    by_side : (b : Bool) → nat_abs (cond b (pos p) (neg_ℤ (pos p))) ≡ p
    by_side true = refl
    by_side false = south p

latitude_octant : (o p : ℕ) (x : ℤ) → o < 8 → 1 ≤ p → north_octant x ≡ o % 4 → octant (latitude_of o p) x ≡ o
latitude_octant o zero x ho hp e = absurd (omega arith)
latitude_octant o (suc n) x ho hp e = by_side (ltb o 4) refl
  where
    south : octant (negsuc n) x ≡ north_octant x + 4
    south = octant_south (negsuc n) x refl

    north : octant (pos (suc n)) x ≡ north_octant x
    north = octant_north (pos (suc n)) x (le-ltb (suc n) 0 (omega arith))

    by_side : (b : Bool) → ltb o 4 ≡ b → octant (cond b (pos (suc n)) (neg_ℤ (pos (suc n)))) x ≡ o
    by_side true h = rw (north, e) (omega (arith, ltb-true o 4 h))
    by_side false h = rw (south, e) (omega (arith, ltb-false o 4 h))

pub centre_return : (k : ℕ) (c : Place) → 6 * 2 ^ k ≤ q → Occurs k c → place_at k (centre k c).0 (centre k c).1 ≡ c
unfolding place_at centre
centre_return k c hq h =
    let p = centre_p k c.1 in
    let m = centre_m k c.1 in
    let hm = centre_m_below k c.1 h.1 in
    let x = beginning c.0 +ℤ pos m in
    let o = latitude_octant c.0 p x h.0 (centre_p_positive k c.1 hq) (beginning_octant c.0 m hm) in
    rw (o, latitude_size c.0 p, beginning_offset c.0 m hm, centre_triangle k c.1 hq h.1)

-- ---- where centres lie: a centre's latitude is neither 0 nor a pole, and its longitude lies in its octant

pub centre_latitude : (k : ℕ) (c : Place) → 6 * 2 ^ k ≤ q → Occurs k c → (1 ≤ nat_abs (centre k c).0) × (nat_abs (centre k c).0 < q)
unfolding centre
centre_latitude k c hq h = rw (latitude_size c.0 (centre_p k c.1)) (centre_p_positive k c.1 hq, centre_p_below k c.1 h.1)

pub centre_longitude : (k : ℕ) (c : Place) → Occurs k c → (longitude_out (centre k c).1 ≡ false) × (north_octant (centre k c).1 ≡ c.0 % 4)
unfolding centre
centre_longitude k c h =
    let hm = centre_m_below k c.1 h.1 in
    (beginning_inside c.0 (centre_m k c.1) hm, beginning_octant c.0 (centre_m k c.1) hm)
