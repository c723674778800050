-- The laws of triangles, places and numbers, each once over the level k. They are what the crates above cite.
-- Assumes nothing.
use Prim.Native.Nat.{ℕ, zero, suc, ◌+◌, ◌*◌, ◌/◌, ◌%◌, ◌^◌, ◌≤◌, ◌<◌}
use mathlib.Core.Path.{◌≡◌, refl, sym, ap, ap₂, subst, ◌∙◌}
use mathlib.Core.Bool.{Bool, true, false, not}
use mathlib.Core.Logic.{◌↔◌}
use native.Mathlib.Nat.{one-mul, mul_left_comm, pow-suc, pow-zero, one-le-pow, pow-le-pow_right}
use native.Mathlib.Nat.{mod-one, mod-eq_of_lt, div-one, div-add-mod', div-lt_iff_lt-mul, le-div_iff_mul-le, div-div-eq-div-mul}
use native.Mathlib.Omega.{arith}
use borrow.Author.Tests.{lt-ltb, le-ltb, ltb-true, ltb-false, not-true, not-false}
use lib.Dec.{ltb}
use lib.ListN.{get_or}
use lib.Pow.{pow-lt}
use lib.Arith.{digits_lt, digits_div, mod-mul}
use Rattle.cell.specs.declared.Kind.{Kind}
use Rattle.cell.specs.declared.Kind.TheVariants.{Up, Down}
use Rattle.cell.specs.Cell.{Triangle, triangle_of, up, down, row, col, children, child, triangle, span, Place, place, Occurs}
use Rattle.cell.specs.Cell.{parents, parities, as_child, digits, number, cells, max_level}

-- ---- one step of the table

-- what holds of 0 and 1 holds of each bit
pub bit_cases : (P : ℕ → Type 0) → P 0 → P 1 → (t : ℕ) → t < 2 → P t
bit_cases P p0 p1 zero h = p0
bit_cases P p0 p1 (suc zero) h = p1
bit_cases P p0 p1 (suc (suc t)) h = absurd (omega arith)

-- what holds of 0, 1, 2 and 3 holds of each digit
pub digit_cases : (P : ℕ → Type 0) → P 0 → P 1 → P 2 → P 3 → (d : ℕ) → d < 4 → P d
digit_cases P p0 p1 p2 p3 zero h = p0
digit_cases P p0 p1 p2 p3 (suc zero) h = p1
digit_cases P p0 p1 p2 p3 (suc (suc zero)) h = p2
digit_cases P p0 p1 p2 p3 (suc (suc (suc zero))) h = p3
digit_cases P p0 p1 p2 p3 (suc (suc (suc (suc d)))) h = absurd (omega arith)

even_mod : (a : ℕ) → 2 * a % 2 ≡ 0
even_mod a = omega arith

even_div : (a : ℕ) → 2 * a / 2 ≡ a
even_div a = omega arith

odd_mod : (a : ℕ) → (2 * a + 1) % 2 ≡ 1
odd_mod a = omega arith

odd_div : (a : ℕ) → (2 * a + 1) / 2 ≡ a
odd_div a = omega arith

ruleset halves = (even_mod, even_div, odd_mod, odd_div)

-- a child's parent and digit are those it was made of
pub as_child_child : (f : Triangle) (d : ℕ) → d < 4 → as_child (child f d) ≡ (f, d)
unfolding child children row col as_child parents parities
as_child_child (up a b) = digit_cases _ (simp halves) (simp halves) (simp halves) (simp halves)
as_child_child (down a b) = digit_cases _ (simp halves) (simp halves) (simp halves) (simp halves)

-- what is known of a triangle's parent and digit: the triangle is that child, the digit is below 4,
-- and the parent occurs wherever the triangle's level has a level above it
record ChildKnown (f : Triangle) (o : Triangle × ℕ) : Type 0 where
  again : child o.0 o.1 ≡ f
  small : o.1 < 4
  inside : (M : ℕ) → span f ≤ 2 * M → span o.0 ≤ M

child_known : (f : Triangle) → ChildKnown f (as_child f)
unfolding row col as_child parents parities child children span
child_known (up a b) = digit_cases (λ (i : ℕ). parities (up a b) ≡ i → ChildKnown (up a b) (get_or (parents (up a b)) i (up a b, 0)))
    (λ e. record { again = ap₂ up (omega arith) (omega arith); small = omega arith; inside = λ M h. omega arith })
    (λ e. record { again = ap₂ up (omega arith) (omega arith); small = omega arith; inside = λ M h. omega arith })
    (λ e. record { again = ap₂ up (omega arith) (omega arith); small = omega arith; inside = λ M h. omega arith })
    (λ e. record { again = ap₂ up (omega arith) (omega arith); small = omega arith; inside = λ M h. omega arith })
    (parities (up a b)) (omega arith) refl
child_known (down a b) = digit_cases (λ (i : ℕ). parities (down a b) ≡ i → ChildKnown (down a b) (get_or (parents (down a b)) i (down a b, 0)))
    (λ e. record { again = ap₂ down (omega arith) (omega arith); small = omega arith; inside = λ M h. omega arith })
    (λ e. record { again = ap₂ down (omega arith) (omega arith); small = omega arith; inside = λ M h. omega arith })
    (λ e. record { again = ap₂ down (omega arith) (omega arith); small = omega arith; inside = λ M h. omega arith })
    (λ e. record { again = ap₂ down (omega arith) (omega arith); small = omega arith; inside = λ M h. omega arith })
    (parities (down a b)) (omega arith) refl

child_span : (f : Triangle) (M : ℕ) → span f ≤ M → (d : ℕ) → d < 4 → span (child f d) ≤ 2 * M
unfolding child children span
child_span (up a b) M h = digit_cases _ (omega arith) (omega arith) (omega arith) (omega arith)
child_span (down a b) M h = digit_cases _ (omega arith) (omega arith) (omega arith) (omega arith)

-- ---- all levels

-- level 0 is up(0,0) of each octant
pub level_0 : (n : ℕ) → place 0 n ≡ (n, up 0 0)
unfolding place triangle
level_0 n = rw (pow-zero, div-one)

two_pow : (k : ℕ) → 2 ^ suc k ≡ 2 * 2 ^ k
two_pow k = omega (arith, pow-suc 2 k)

four_pow : (k : ℕ) → 4 ^ suc k ≡ 4 * 4 ^ k
four_pow k = omega (arith, pow-suc 4 k)

-- each number leads to a triangle of its level
pub triangle_span : (k n : ℕ) → span (triangle k n) ≤ 2 ^ k
unfolding triangle span
triangle_span zero n = omega (arith, pow-zero 2)
triangle_span (suc k) n = rw (two_pow k) (child_span _ (2 ^ k) (triangle_span k _) _ (omega arith))

-- k digits are a number below 4^k
pub digits_below : (k : ℕ) (f : Triangle) → digits k f < 4 ^ k
unfolding digits
digits_below zero f = omega (arith, pow-zero 4)
digits_below (suc k) f = omega (arith, four_pow k, digits_below k (as_child f).0, (child_known f).small)

-- a triangle's digits lead to it
pub triangle_digits : (k : ℕ) (f : Triangle) → span f ≤ 2 ^ k → triangle k (digits k f) ≡ f
unfolding triangle digits span
triangle_digits zero (up a b) h = ap₂ up (omega (arith, pow-zero 2)) (omega (arith, pow-zero 2))
triangle_digits zero (down a b) h = absurd (omega (arith, pow-zero 2))
triangle_digits (suc k) f h =
    let d = digits k (as_child f).0 in
    let r = (as_child f).1 in
    let high : (4 * d + r) / 4 ≡ d = omega (arith, (child_known f).small) in
    let low : (4 * d + r) % 4 ≡ r = omega (arith, (child_known f).small) in
    let same : triangle k d ≡ (as_child f).0 = triangle_digits k (as_child f).0 ((child_known f).inside (2 ^ k) (rw two_pow at h)) in
    ap₂ child (ap (triangle k) high ∙ same) low ∙ (child_known f).again

-- the digits of the triangle that a number leads to are the number's k lowest
pub digits_triangle : (k n : ℕ) → digits k (triangle k n) ≡ n % 4 ^ k
unfolding triangle digits
digits_triangle zero n = sym (rw pow-zero (mod-one n))
digits_triangle (suc k) n =
    let b : n % 4 < 4 = omega arith in
    rw (as_child_child (triangle k (n / 4)) (n % 4) b, digits_triangle k (n / 4), pow-suc 4 k)
    (omega (arith, mod-mul n {m = 4 ^ k} {c = 4} (one-le-pow k 4 (omega arith)) (omega arith)))

-- digits above the k lowest do not matter to the triangle
triangle_low : (k o d : ℕ) → triangle k (o * 4 ^ k + d) ≡ triangle k d
unfolding triangle
triangle_low zero o d = refl
triangle_low (suc k) o d =
    let e : o * 4 ^ suc k ≡ 4 * (o * 4 ^ k) = rw four_pow (mul_left_comm o 4 (4 ^ k)) in
    let high : (o * 4 ^ suc k + d) / 4 ≡ o * 4 ^ k + d / 4 = omega arith in
    let low : (o * 4 ^ suc k + d) % 4 ≡ d % 4 = omega arith in
    rw (high, low, triangle_low k o (d / 4))

-- ---- places

-- a number of the level has a place that occurs there
pub place_occurs : (k n : ℕ) → n < cells k → Occurs k (place k n)
unfolding place
place_occurs k n h = ((div-lt_iff_lt-mul (one-le-pow k 4 (omega arith))).1 h, triangle_span k n)

-- a place that occurs has a number of the level
pub number_below : (k : ℕ) (p : Place) → Occurs k p → number k p < cells k
unfolding number
number_below k p h = digits_lt h.0 (digits_below k p.1)

-- a place's number has that place
pub place_number : (k : ℕ) (p : Place) → Occurs k p → place k (number k p) ≡ p
unfolding place number
place_number k p h =
    let e : (p.0 * 4 ^ k + digits k p.1) / 4 ^ k ≡ p.0 = digits_div p.0 (digits_below k p.1) in
    let f : triangle k (p.0 * 4 ^ k + digits k p.1) ≡ p.1 = triangle_low k p.0 (digits k p.1) ∙ triangle_digits k p.1 h.1 in
    λ i. (e i, f i)

-- a number's place has that number
pub number_place : (k n : ℕ) → number k (place k n) ≡ n
unfolding place number
number_place k n = rw digits_triangle (div-add-mod' n (4 ^ k))

-- the places that occur are exactly those of the level's numbers: up with a+b ≤ N−1 and down with a+b ≤ N−2, in octants 0 to 7
pub occurs_exactly : (k : ℕ) (p : Place) → Occurs k p ↔ ((n : ℕ) × (n < cells k) × (place k n ≡ p))
occurs_exactly k p = (
  λ h. (number k p, number_below k p h, place_number k p h),
  λ w. subst (Occurs k) w.2 (place_occurs k w.0 w.1),
)

-- child d of cell c at level k is cell 4c + d at level k + 1
pub child_number : (k c d : ℕ) → d < 4 → place (suc k) (4 * c + d) ≡ ((place k c).0, child (place k c).1 d)
unfolding place triangle
child_number k c d h =
    let high : (4 * c + d) / 4 ≡ c = omega arith in
    let low : (4 * c + d) % 4 ≡ d = omega arith in
    let o : (4 * c + d) / 4 ^ suc k ≡ c / 4 ^ k = rw (four_pow, ← (div-div-eq-div-mul (4 * c + d) 4 (4 ^ k)), high) in
    rw (o, high, low)

-- ---- what the code computes by

-- a digit is two bits
pub shift_four : (k : ℕ) → 2 ^ (2 * k) ≡ 4 ^ k
shift_four zero = refl
shift_four (suc k) =
    let e : 2 * suc k ≡ suc (suc (2 * k)) = omega arith in
    rw e (omega (arith, pow-suc 2 (suc (2 * k)), pow-suc 2 (2 * k), pow-suc 4 k, shift_four k))

-- row and column of a triangle are below what it spans
pub triangle_bounds : (t : Kind) (a b M : ℕ) → span (triangle_of t a b) ≤ M → (a < M) × (b < M)
unfolding span
triangle_bounds Up a b M h = omega arith
triangle_bounds Down a b M h = omega arith

-- an octant above 7 is a number past the level's
pub past_level : (k n : ℕ) → 8 ≤ n / 2 ^ (2 * k) → cells k ≤ n
past_level k n h = (le-div_iff_mul-le (one-le-pow k 4 (omega arith))).0 (rw shift_four at h)

pub below_level : (k n : ℕ) → n / 2 ^ (2 * k) < 8 → n < cells k
below_level k n h = (div-lt_iff_lt-mul (one-le-pow k 4 (omega arith))).0 (rw shift_four at h)

-- the two as one test
pub level_test : (k n : ℕ) → ltb (n / 2 ^ (2 * k)) 8 ≡ ltb n (cells k)
level_test k n = go (ltb (n / 2 ^ (2 * k)) 8) refl
  where
    go : (b : Bool) → ltb (n / 2 ^ (2 * k)) 8 ≡ b → b ≡ ltb n (cells k)
    go true e = sym (lt-ltb n (cells k) (below_level k n (ltb-true (n / 2 ^ (2 * k)) 8 e)))
    go false e = sym (le-ltb n (cells k) (past_level k n (ltb-false (n / 2 ^ (2 * k)) 8 e)))

-- where the code asks for it and refuses, or goes on
pub no_cell : (b : Bool) (k n : ℕ) → b ≡ ltb n (cells k) → not b ≡ true → cells k ≤ n
no_cell b k n e f = ltb-false n (cells k) (sym e ∙ not-true b f)

pub a_cell : (b : Bool) (k n : ℕ) → b ≡ ltb n (cells k) → not b ≡ false → n < cells k
a_cell b k n e t = ltb-true n (cells k) (sym e ∙ not-false b t)

-- above level 14 a number of 32 bits is below
pub below_higher_level : (k n : ℕ) → max_level < k → n < 2 ^ 32 → n < cells k
below_higher_level k n h l = omega (arith, pow-le-pow_right {n = 4} (omega arith) {i = 15} {j = k} h)

-- N as the code shifts it, in w bits
pub shifted : (w k : ℕ) → k < w → 1 * 2 ^ k % 2 ^ w ≡ 2 ^ k
shifted w k h = rw one-mul (mod-eq_of_lt (pow-lt h))
