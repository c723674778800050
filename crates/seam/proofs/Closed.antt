-- After the four groups are joined, the two spots of every pair have the same. Assumes nothing.
use Prim.Native.Nat.{ℕ, zero, suc, ◌+◌, ◌*◌, ◌-◌, ◌/◌, ◌%◌, ◌≤◌, ◌<◌}
use mathlib.Core.Path.{◌≡◌, refl, sym, ap, ap₂, ◌∙◌}
use mathlib.Core.Bool.{Bool, true, false, ◌||◌}
use mathlib.Core.Logic.{◌⊎◌, inl, inr}
use native.Mathlib.Omega.{arith}
use borrow.Author.Tests.{leb-true, leb-false, eqb-true, eqb-false}
use lib.Dec.{leb, eqb}
use Rattle.code.specs.Step.{east}
use Rattle.rows.specs.Rows.{octant_rows, row_spots, spot, row_at}
use Rattle.rows.proofs.Spots.{spot_row}
use Rattle.seam.specs.declared.edges.Edge.{Edge}
use Rattle.seam.specs.declared.edges.Edge.TheVariants.{Meridian, Beside, Across, Equator}
use Rattle.seam.specs.inside.Pairs.{join_pairs, first_of, second_of, count_of}
use Rattle.seam.proofs.Pairs.{pairs_other, pairs_at}
use Rattle.seam.proofs.Groups.{group_apart}

-- the pairs of a group joined
abbrev pub group : Edge → ℕ → (ℕ → Bool) → ℕ → Bool
group e n P = join_pairs (first_of e n) (second_of e n) (count_of e n) P

-- the two spots of every pair have the same
pub record Closed (n : ℕ) (Q : ℕ → Bool) : Type 0 where
  pub meridians : (o t : ℕ) → o < 8 → t < n → Q (spot o t (n - t)) ≡ Q (spot (east o) t 0)
  pub poles : (o : ℕ) → o < 8 → Q (spot o n 0) ≡ Q (spot (o / 4 * 4) n 0)
  pub equator : (o r : ℕ) → o < 8 → r ≤ n → Q (spot o 0 r) ≡ Q (spot (o % 4) 0 r)

-- a group whose spots are all in one row leaves every other row as it is
rows_other :
    (e : Edge) (n row : ℕ) (P : ℕ → Bool) → ((x : ℕ) → x < count_of e n → (row_at (first_of e n x) ≡ row) × (row_at (second_of e n x) ≡ row))
    → (o t r : ℕ) → t < octant_rows → r < row_spots → (t ≡ row → ⊥) → group e n P (spot o t r) ≡ P (spot o t r)
rows_other e n row P f o t r ht hr d =
    pairs_other (first_of e n) (second_of e n) P (count_of e n) (spot o t r)
    (λ x l. (absent (first_of e n x) (f x l).0, absent (second_of e n x) (f x l).1))
  where
    absent : (i : ℕ) → row_at i ≡ row → spot o t r ≡ i → ⊥
    absent i q s = d (sym (spot_row o t r ht hr) ∙ ap row_at s ∙ q)

module _ (n : ℕ) (h : n ≤ 256) (P : ℕ → Bool) where
  -- either spot of a pair has what one of the two had
  either-at :
      (e : Edge) (x : ℕ) → x < count_of e n → (i : ℕ) → (i ≡ first_of e n x) ⊎ (i ≡ second_of e n x)
      → group e n P i ≡ (P (first_of e n x) || P (second_of e n x))
  either-at e = pairs_at (first_of e n) (second_of e n) P (count_of e n) (group_apart n h e)

  -- so both have the same
  pair_closed : (e : Edge) (x : ℕ) → x < count_of e n → group e n P (first_of e n x) ≡ group e n P (second_of e n x)
  pair_closed e x l = either-at e x l (first_of e n x) (inl refl) ∙ sym (either-at e x l (second_of e n x) (inr refl))

  -- ---- the meridians

  meridian_closed : (o t : ℕ) → o < 8 → t < n → group Meridian n P (spot o t (n - t)) ≡ group Meridian n P (spot (east o) t 0)
  unfolding first_of second_of count_of
  meridian_closed o t ho ht =
      let q : (8 * t + o) / 8 ≡ t = omega arith in
      let m : (8 * t + o) % 8 ≡ o = omega arith in
      rw (q, m) at (pair_closed Meridian (8 * t + o) (omega arith))

  -- ---- the poles

  -- octants beside each other
  beside_closed : (x : ℕ) → x < 4 → group Beside n P (spot (2 * x) n 0) ≡ group Beside n P (spot (2 * x + 1) n 0)
  unfolding first_of second_of count_of
  beside_closed x l = pair_closed Beside x l

  -- both turns at the poles leave every other row as it is
  pole_other : (o t r : ℕ) → t < n → r < row_spots → group Across n (group Beside n P) (spot o t r) ≡ P (spot o t r)
  unfolding first_of second_of count_of
  pole_other o t r ht hr =
      rows_other Across n n (group Beside n P) (λ x l. (in_row (x / 2 * 4 + x % 2), in_row (x / 2 * 4 + x % 2 + 2))) o t r (omega arith) hr (λ e. omega arith)
      ∙ rows_other Beside n n P (λ x l. (in_row (2 * x), in_row (2 * x + 1))) o t r (omega arith) hr (λ e. omega arith)
    where
      in_row : (o : ℕ) → row_at (spot o n 0) ≡ n
      in_row o = spot_row o n 0 (omega arith) (omega arith)

  -- octants across a pole, by what each had
  across_both : (o : ℕ) → o < 8 → group Across n P (spot o n 0) ≡ (P (spot (o / 4 * 4 + o % 2) n 0) || P (spot (o / 4 * 4 + o % 2 + 2) n 0))
  unfolding first_of second_of count_of
  across_both o l = rw q at (either-at Across x (omega arith) (spot o n 0) (which (leb 2 (o % 4)) refl))
    where
      x : ℕ
      x = o / 4 * 2 + o % 2

      q : x / 2 * 4 + x % 2 ≡ o / 4 * 4 + o % 2
      q = omega arith

      which : (b : Bool) → leb 2 (o % 4) ≡ b → (spot o n 0 ≡ first_of Across n x) ⊎ (spot o n 0 ≡ second_of Across n x)
      which false e = let d = leb-false 2 (o % 4) e in inl (omega arith)
      which true e = let d = leb-true 2 (o % 4) e in inr (omega arith)

  -- ---- the equator

  -- either side of the equator has what one of the two had
  equator_both : (o r : ℕ) → o < 8 → r ≤ n → group Equator n P (spot o 0 r) ≡ (P (spot (o % 4) 0 r) || P (spot (o % 4 + 4) 0 r))
  unfolding first_of second_of count_of
  equator_both o r ho hr = rw (q, m) at (either-at Equator x (omega arith) (spot o 0 r) (which (leb 4 o) refl))
    where
      x : ℕ
      x = 4 * r + o % 4

      q : x / 4 ≡ r
      q = omega arith

      m : x % 4 ≡ o % 4
      m = omega arith

      which : (b : Bool) → leb 4 o ≡ b → (spot o 0 r ≡ first_of Equator n x) ⊎ (spot o 0 r ≡ second_of Equator n x)
      which false e =
          let d = leb-false 4 o e in
          let z : o % 4 ≡ o = omega arith in
          inl (rw (q, m, z))
      which true e =
          let d = leb-true 4 o e in
          let z : o % 4 + 4 ≡ o = omega arith in
          inr (rw (q, m, z))

  -- every other row stays
  equator_other : (o t r : ℕ) → 0 < t → t ≤ n → r < row_spots → group Equator n P (spot o t r) ≡ P (spot o t r)
  unfolding first_of second_of count_of
  equator_other o t r hz ht hr =
      rows_other Equator n 0 P
      (λ x l. (spot_row (x % 4) 0 (x / 4) (omega arith) (omega arith), spot_row (x % 4 + 4) 0 (x / 4) (omega arith) (omega arith)))
      o t r (omega arith) hr (λ e. omega arith)

-- ---- the octant to the east, in the north and in the south

next_mod : (o : ℕ) → (o % 4 + 1) % 4 ≡ (o + 1) % 4
next_mod o = omega arith

east_mod : (q w : ℕ) → w < 4 → (q * 4 + w) % 4 ≡ w
east_mod q w h = omega arith

east_north : (o : ℕ) → east (o % 4) ≡ east o % 4
unfolding east
east_north o =
    let z : o % 4 / 4 * 4 + (o + 1) % 4 ≡ (o + 1) % 4 = omega arith in
    rw (next_mod o, east_mod (o / 4) ((o + 1) % 4) (omega arith)) z

east_south : (o : ℕ) → east (o % 4 + 4) ≡ east o % 4 + 4
unfolding east
east_south o =
    let y : (o % 4 + 4) / 4 * 4 ≡ 4 = omega arith in
    let z : (o % 4 + 4 + 1) % 4 ≡ (o % 4 + 1) % 4 = omega arith in
    rw (y, z, next_mod o, east_mod (o / 4) ((o + 1) % 4) (omega arith)) (omega arith)

-- ---- the four groups, one after the other

abbrev pub all : ℕ → (ℕ → Bool) → ℕ → Bool
all n P = group Equator n (group Across n (group Beside n (group Meridian n P)))

module _ (n : ℕ) (h : n ≤ 256) (some : 0 < n) (P : ℕ → Bool) where
  after_meridians : ℕ → Bool
  after_meridians = group Meridian n P

  after_beside : ℕ → Bool
  after_beside = group Beside n after_meridians

  after_across : ℕ → Bool
  after_across = group Across n after_beside

  after_equator : ℕ → Bool
  after_equator = group Equator n after_across

  -- the poles leave the meridians as they are
  meridians_kept : (o t : ℕ) → o < 8 → t < n → after_across (spot o t (n - t)) ≡ after_across (spot (east o) t 0)
  unfolding after_meridians after_beside after_across
  meridians_kept o t ho ht =
      pole_other n h after_meridians o t (n - t) ht (omega arith) ∙ meridian_closed n h P o t ho ht ∙ sym (pole_other n h after_meridians (east o) t 0 ht (omega arith))

  -- an octant and the one beside it
  beside_even : (o : ℕ) → o < 8 → after_beside (spot o n 0) ≡ after_beside (spot (o / 2 * 2) n 0)
  unfolding after_meridians after_beside
  beside_even o l = go (eqb (o % 2) 0) refl
    where
      go : (b : Bool) → eqb (o % 2) 0 ≡ b → after_beside (spot o n 0) ≡ after_beside (spot (o / 2 * 2) n 0)
      go true e =
          let d = eqb-true (o % 2) 0 e in
          let z : o / 2 * 2 ≡ o = omega arith in
          rw z
      go false e =
          let d = eqb-false (o % 2) 0 e in
          let z : 2 * (o / 2) + 1 ≡ o = omega arith in
          let y : 2 * (o / 2) ≡ o / 2 * 2 = omega arith in
          sym (rw (z, y) at (beside_closed n h after_meridians (o / 2) (omega arith)))

  -- all four octants of a hemisphere have the same at the pole
  pole_both : (o : ℕ) → o < 8 → after_equator (spot o n 0) ≡ (after_beside (spot (o / 4 * 4) n 0) || after_beside (spot (o / 4 * 4 + 2) n 0))
  unfolding after_across after_equator
  pole_both o l =
      let f = beside_even (o / 4 * 4 + o % 2) (omega arith) in
      let s = beside_even (o / 4 * 4 + o % 2 + 2) (omega arith) in
      let y : (o / 4 * 4 + o % 2) / 2 * 2 ≡ o / 4 * 4 = omega arith in
      let z : (o / 4 * 4 + o % 2 + 2) / 2 * 2 ≡ o / 4 * 4 + 2 = omega arith in
      equator_other n h after_across o n 0 some (omega arith) (omega arith)
      ∙ across_both n h after_beside o l
      ∙ ap₂ (λ (a b : Bool). a || b) (rw y at f) (rw z at s)

  meridians_closed : (o t : ℕ) → o < 8 → t < n → after_equator (spot o t (n - t)) ≡ after_equator (spot (east o) t 0)
  unfolding after_equator east
  meridians_closed o zero ho ht =
      equator_both n h after_across o (n - 0) ho (omega arith)
      ∙ ap₂ (λ (a b : Bool). a || b)
      (rw (east_north o) at (meridians_kept (o % 4) 0 (omega arith) ht))
      (rw (east_south o) at (meridians_kept (o % 4 + 4) 0 (omega arith) ht))
      ∙ sym (equator_both n h after_across (east o) 0 (omega arith) (omega arith))
  meridians_closed o (suc t) ho ht =
      equator_other n h after_across o (suc t) (n - suc t) (omega arith) (omega arith) (omega arith)
      ∙ meridians_kept o (suc t) ho ht
      ∙ sym (equator_other n h after_across (east o) (suc t) 0 (omega arith) (omega arith) (omega arith))

  poles_closed : (o : ℕ) → o < 8 → after_equator (spot o n 0) ≡ after_equator (spot (o / 4 * 4) n 0)
  poles_closed o l =
      let z : o / 4 * 4 / 4 * 4 ≡ o / 4 * 4 = omega arith in
      pole_both o l ∙ sym (rw z at (pole_both (o / 4 * 4) (omega arith)))

  equator_closed : (o r : ℕ) → o < 8 → r ≤ n → after_equator (spot o 0 r) ≡ after_equator (spot (o % 4) 0 r)
  unfolding after_equator
  equator_closed o r ho hr =
      let z : o % 4 % 4 ≡ o % 4 = omega arith in
      equator_both n h after_across o r ho hr ∙ sym (rw z at (equator_both n h after_across (o % 4) r (omega arith) hr))

  pub all_closed : Closed n (all n P)
  unfolding after_meridians after_beside after_across after_equator
  all_closed = record { meridians = meridians_closed; poles = poles_closed; equator = equator_closed }
