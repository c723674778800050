-- Steps over edges, from one of two spots to the other, and one family of steps after the other. Assumes nothing.
use Prim.Native.Nat.{ℕ, ◌+◌, ◌*◌, ◌-◌, ◌/◌, ◌%◌, ◌^◌, ◌≤◌, ◌<◌}
use mathlib.Core.Path.{◌≡◌, refl, sym, ap, subst, ◌∙◌}
use mathlib.Core.Bool.{Bool, true, ◌||◌}
use mathlib.Core.List.{List}
use mathlib.Core.Logic.{inl, inr, ⊎_elim}
use native.Mathlib.Nat.{eq-or-lt_of_le, le_of_suc-le-suc}
use native.Mathlib.Numerals.{add-one}
use native.Mathlib.Omega.{arith}
use borrow.Author.Tests.{eqb-true, eq-eqb}
use lib.Dec.{eqb}
use Rattle.bitset.specs.Bits.{bit}
use Rattle.bitset.proofs.Laws.{bit_pow, shifted}
use Rattle.cell.specs.declared.Kind.{Kind}
use Rattle.cell.specs.declared.Kind.TheVariants.{Up}
use Rattle.rows.specs.Rows.{lit, spot_count, spot, spot_in}
use Rattle.rows.proofs.Spots.{size_shifted, size_low, spot_told}
use Rattle.code.specs.Step.{across, east}
use Rattle.flood.specs.Flood.{Pair, Edges}
use Rattle.flood.specs.inside.Turns.{Joined, One, Turn}
use Rattle.flood.proofs.Turns.{turn_join}
use Rattle.flood.proofs.Joining.{turn_up}

-- ---- from one spot to another

one_bit : (q i : ℕ) → bit (1 * 2 ^ (q % 64) % 2 ^ 64) (i % 64) ≡ eqb (q % 64) (i % 64)
one_bit q i = ap (λ (n : ℕ). bit n (i % 64)) (shifted 64 (q % 64) (omega arith)) ∙ bit_pow (q % 64) (i % 64)

pub turn_one : {p q : ℕ} {ou u u' : List ℕ} {r : Bool} (od d : List ℕ) → lit u p ≡ true →
    Joined (q / 64) (1 * 2 ^ (q % 64) % 2 ^ 64) ou u u' r → Turn (One p q) ou od u d u' d r
turn_one {p} {q} od d l = turn_up (One p q) od d
    (λ s t i j m k. (m.1, ap (λ (n : ℕ). n / 64) m.3, one_bit q j ∙ eq-eqb (q % 64) (j % 64) (ap (λ (n : ℕ). n % 64) (sym m.3))))
    (λ j e b.
    let k : q % 64 ≡ j % 64 = eqb-true (q % 64) (j % 64) (sym (one_bit q j) ∙ b) in
    (Up, p, (refl, refl, refl, omega arith), l))

-- both ways
pub turn_pair : {p q : ℕ} {ou od u₀ d₀ u₁ d₁ u₂ d₂ : List ℕ} {a b : Bool} →
    Turn (One p q) ou od u₀ d₀ u₁ d₁ a → Turn (One q p) ou od u₁ d₁ u₂ d₂ b → Turn (Pair p q) ou od u₀ d₀ u₂ d₂ (a || b)
turn_pair {p} {q} = turn_join
    (λ s t i j m. (m.0, m.1, inl (m.2, m.3)))
    (λ s t i j m. (m.0, m.1, inr (m.2, m.3)))
    (λ s t i j m. ⊎_elim
    (λ (w : (i ≡ p) × (j ≡ q)). inl (m.0, m.1, w.0, w.1))
    (λ (w : (i ≡ q) × (j ≡ p)). inr (m.0, m.1, w.0, w.1))
    m.2)

-- over both edges, between the spots that the code computes
module _ (k o n e : ℕ) (h : k ≤ 8) (ho : o < 8) (hn : n < 2 ^ k) (he : e ≡ east o) {p q p' q' : ℕ}
    (ep : p ≡ spot_in o n (1 * 2 ^ k % 2 ^ 32 - 1 - n)) (eq : q ≡ spot_in e n 0) (ep' : p' ≡ spot_in o 0 n) (eq' : q' ≡ spot_in ((o + 4) % 8) 0 n) where
  Is : ℕ → ℕ → ℕ → ℕ → Type 0
  Is i o t r = (i ≡ spot o t r) × (i < spot_count)

  east_spots : Is p o n (2 ^ k - 1 - n) × Is q (east o) n 0
  unfolding Is east
  east_spots =
      let l = size_low k h in (
        spot_told o n (2 ^ k - 1 - n) (ep ∙ ap (λ (m : ℕ). spot_in o n (m - 1 - n)) (size_shifted k h)) (omega arith) (omega arith) (omega arith),
        spot_told (east o) n 0 (eq ∙ ap (λ (m : ℕ). spot_in m n 0) he) (omega arith) (omega arith) (omega arith),
      )

  equator_spots : Is p' o 0 n × Is q' (across o) 0 n
  unfolding Is across
  equator_spots =
      let l = size_low k h in
      (spot_told o 0 n ep' (omega arith) (omega arith) (omega arith), spot_told (across o) 0 n eq' (omega arith) (omega arith) (omega arith))

  pub turn_edges : {ou od u₀ d₀ u₁ d₁ u₂ d₂ : List ℕ} {a b : Bool} →
      Turn (Pair p q) ou od u₀ d₀ u₁ d₁ a → Turn (Pair p' q') ou od u₁ d₁ u₂ d₂ b → Turn (Edges k o n) ou od u₀ d₀ u₂ d₂ (a || b)
  unfolding Is
  turn_edges x y =
      turn_join (λ s t i j m. inl m) (λ s t i j m. inr m) (λ s t i j m. m) (rw (east_spots.0.0, east_spots.1.0) at x) (rw (equator_spots.0.0, equator_spots.1.0) at y)

-- ---- families of steps

-- those of the families below m
abbrev pub Below : (ℕ → Kind → ℕ → Kind → ℕ → Type 0) → ℕ → Kind → ℕ → Kind → ℕ → Type 0
Below F m s i t j = (n : ℕ) × (n < m) × F n s i t j

pub turn_next : (F : ℕ → Kind → ℕ → Kind → ℕ → Type 0) (m : ℕ) {ou od u₀ d₀ u₁ d₁ u₂ d₂ : List ℕ} {a b : Bool} →
    Turn (Below F m) ou od u₀ d₀ u₁ d₁ a → Turn (F m) ou od u₁ d₁ u₂ d₂ b → Turn (Below F (m + 1)) ou od u₀ d₀ u₂ d₂ (a || b)
turn_next F m = turn_join
    (λ s t i j w. (w.0, omega (arith, w.1), w.2))
    (λ s t i j w. (m, omega arith, w))
    (λ s t i j w. ⊎_elim
    (λ (e : w.0 ≡ m). inr (subst (λ (n : ℕ). F n s i t j) e w.2))
    (λ (l : w.0 < m). inl (w.0, l, w.2))
    (eq-or-lt_of_le (le_of_suc-le-suc (rw add-one at w.1))))
