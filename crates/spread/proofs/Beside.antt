-- Spots beside each other: two corners of one triangle are, and two points of a level that are have a triangle of it in common. Assumes nothing.
use Prim.Native.Nat.{ℕ, ◌+◌, ◌-◌, ◌≤◌, ◌<◌}
use mathlib.Core.Path.{◌≡◌, refl, sym, subst}
use mathlib.Core.Bool.{Bool, true, false, ◌||◌}
use mathlib.Core.Logic.{◌⊎◌, inl, inr, ⊎_elim}
use borrow.Author.Tests.{ltb-true, ltb-false}
use lib.Dec.{ltb}
use native.Mathlib.Omega.{arith}
use Rattle.refusal.proofs.Tests.{left, right, cases}
use Rattle.cell.specs.Cell.{Triangle, up, down, span}
use Rattle.rows.specs.Rows.{spot}
use Rattle.rows.proofs.Spots.{spot_same}
use Rattle.stencil.specs.Stencil.{near_of}
use Rattle.spread.specs.Spread.{HasCorner}

-- j is i, or the spot to the east, west, north, north-west, south or south-east of it
pub data Beside (i j : ℕ) : Type 0 where
  same : j ≡ i → Beside i j
  east : j ≡ i + 1 → Beside i j
  west : i ≡ j + 1 → Beside i j
  north : j ≡ i + 320 → Beside i j
  north_west : j + 1 ≡ i + 320 → Beside i j
  south : i ≡ j + 320 → Beside i j
  south_east : i + 1 ≡ j + 320 → Beside i j

-- `near_of` asks these seven
module _ (P : ℕ → Bool) (i : ℕ) where
  at : (j n : ℕ) → j ≡ n → P j ≡ true → P n ≡ true
  at j n e p = subst (λ (x : ℕ). P x ≡ true) e p

  pub near_in : (j : ℕ) → Beside i j → P j ≡ true → near_of P i ≡ true
  unfolding near_of
  near_in j (same e) p = left (P i) _ (at j i e p)
  near_in j (east e) p = right (P i) _ (left (P (i + 1)) _ (at j (i + 1) e p))
  near_in j (west e) p = right (P i) _ (right (P (i + 1)) _ (left (P (i - 1)) _ (at j (i - 1) (omega arith) p)))
  near_in j (north e) p = right (P i) _ (right (P (i + 1)) _ (right (P (i - 1)) _ (left (P (i + 320)) _ (at j (i + 320) e p))))
  near_in j (north_west e) p =
      right (P i) _ (right (P (i + 1)) _ (right (P (i - 1)) _ (right (P (i + 320)) _ (left (P (i + 319)) _ (at j (i + 319) (omega arith) p)))))
  near_in j (south e) p =
      right (P i) _ (right (P (i + 1)) _ (right (P (i - 1)) _ (right (P (i + 320)) _ (right (P (i + 319)) _ (left (P (i - 320)) _ (at j (i - 320) (omega arith) p))))))
  near_in j (south_east e) p =
      right (P i) _ (right (P (i + 1)) _ (right (P (i - 1)) _ (right (P (i + 320)) _ (right (P (i + 319)) _ (right (P (i - 320)) _ (at j (i - 319) (omega arith) p))))))

  pub near_out : 640 ≤ i → near_of P i ≡ true → (j : ℕ) × Beside i j × (P j ≡ true)
  unfolding near_of
  near_out h e = ⊎_elim (λ (p : P i ≡ true). (i, same refl, p)) one (cases (P i) _ e)
    where
      six : (P (i - 320) || P (i - 319)) ≡ true → (j : ℕ) × Beside i j × (P j ≡ true)
      six q = ⊎_elim (λ (p : P (i - 320) ≡ true). (i - 320, south (omega arith), p)) (λ (p : P (i - 319) ≡ true). (i - 319, south_east (omega arith), p))
          (cases (P (i - 320)) (P (i - 319)) q)

      four : (P (i + 319) || (P (i - 320) || P (i - 319))) ≡ true → (j : ℕ) × Beside i j × (P j ≡ true)
      four q = ⊎_elim (λ (p : P (i + 319) ≡ true). (i + 319, north_west (omega arith), p)) six (cases (P (i + 319)) _ q)

      three : (P (i + 320) || (P (i + 319) || (P (i - 320) || P (i - 319)))) ≡ true → (j : ℕ) × Beside i j × (P j ≡ true)
      three q = ⊎_elim (λ (p : P (i + 320) ≡ true). (i + 320, north refl, p)) four (cases (P (i + 320)) _ q)

      two : (P (i - 1) || (P (i + 320) || (P (i + 319) || (P (i - 320) || P (i - 319))))) ≡ true → (j : ℕ) × Beside i j × (P j ≡ true)
      two q = ⊎_elim (λ (p : P (i - 1) ≡ true). (i - 1, west (omega arith), p)) three (cases (P (i - 1)) _ q)

      one : (P (i + 1) || (P (i - 1) || (P (i + 320) || (P (i + 319) || (P (i - 320) || P (i - 319)))))) ≡ true → (j : ℕ) × Beside i j × (P j ≡ true)
      one q = ⊎_elim (λ (p : P (i + 1) ≡ true). (i + 1, east refl, p)) two (cases (P (i + 1)) _ q)

-- two corners of one triangle
pub corners_beside : (o : ℕ) (f : Triangle) (t r t' r' : ℕ) → HasCorner f t r → HasCorner f t' r' → Beside (spot o t r) (spot o t' r')
corners_beside o (up a b) t r t' r' (inl e) (inl d) = same (omega arith)
corners_beside o (up a b) t r t' r' (inl e) (inr (inl d)) = north (omega arith)
corners_beside o (up a b) t r t' r' (inl e) (inr (inr d)) = east (omega arith)
corners_beside o (up a b) t r t' r' (inr (inl e)) (inl d) = south (omega arith)
corners_beside o (up a b) t r t' r' (inr (inl e)) (inr (inl d)) = same (omega arith)
corners_beside o (up a b) t r t' r' (inr (inl e)) (inr (inr d)) = south_east (omega arith)
corners_beside o (up a b) t r t' r' (inr (inr e)) (inl d) = west (omega arith)
corners_beside o (up a b) t r t' r' (inr (inr e)) (inr (inl d)) = north_west (omega arith)
corners_beside o (up a b) t r t' r' (inr (inr e)) (inr (inr d)) = same (omega arith)
corners_beside o (down a b) t r t' r' (inl e) (inl d) = same (omega arith)
corners_beside o (down a b) t r t' r' (inl e) (inr (inl d)) = south_east (omega arith)
corners_beside o (down a b) t r t' r' (inl e) (inr (inr d)) = east (omega arith)
corners_beside o (down a b) t r t' r' (inr (inl e)) (inl d) = north_west (omega arith)
corners_beside o (down a b) t r t' r' (inr (inl e)) (inr (inl d)) = same (omega arith)
corners_beside o (down a b) t r t' r' (inr (inl e)) (inr (inr d)) = north (omega arith)
corners_beside o (down a b) t r t' r' (inr (inr e)) (inl d) = west (omega arith)
corners_beside o (down a b) t r t' r' (inr (inr e)) (inr (inl d)) = south (omega arith)
corners_beside o (down a b) t r t' r' (inr (inr e)) (inr (inr d)) = same (omega arith)

-- a triangle of n rows that has both
abbrev pub Triangle_with : ℕ → ℕ → ℕ → ℕ → ℕ → Type 0
Triangle_with n t r t' r' = (f : Triangle) × (span f ≤ n) × HasCorner f t r × HasCorner f t' r'

-- below, or not
below : (a b : ℕ) → (a < b) ⊎ (b ≤ a)
below a b = go (ltb a b) refl
  where
    go : (t : Bool) → ltb a b ≡ t → (a < b) ⊎ (b ≤ a)
    go true e = inl (ltb-true a b e)
    go false e = inr (ltb-false a b e)

-- every point is a corner of some triangle
lone : (n t r : ℕ) → 1 ≤ n → t + r ≤ n → Triangle_with n t r t r
unfolding span
lone n t r h l = ⊎_elim
    (λ (s : t + r < n). (up t r, omega arith, inl (refl, refl), inl (refl, refl)))
    (λ (s : n ≤ t + r). ⊎_elim
    (λ (z : 0 < t). (up (t - 1) r, omega arith, inr (inl (omega arith, refl)), inr (inl (omega arith, refl))))
    (λ (z : t ≤ 0). (up t (r - 1), omega arith, inr (inr (refl, omega arith)), inr (inr (refl, omega arith))))
    (below 0 t))
    (below (t + r) n)

-- a spot is that of one octant, row and column, and so are those one row and one column past a point
one_spot : (n o t r o' t' r' : ℕ) → n ≤ 256 → t + r ≤ n + 1 → t' + r' ≤ n + 1 → spot o t r ≡ spot o' t' r' → (o ≡ o') × (t ≡ t') × (r ≡ r')
one_spot n o t r o' t' r' m l l' e = spot_same o t r o' t' r' (omega arith) (omega arith) (omega arith) (omega arith) e

-- two points beside each other are in one octant, and corners of one triangle
pub beside_triangle : (n o t r o' t' r' : ℕ) → 1 ≤ n → n ≤ 256 → t + r ≤ n → t' + r' ≤ n → Beside (spot o t r) (spot o' t' r') →
    (o ≡ o') × Triangle_with n t r t' r'
unfolding span
beside_triangle n o t r o' t' r' h m l l' (same e) =
    let q = one_spot n o t r o' t' r' m (omega arith) (omega arith) (omega arith) in
    let w = lone n t r h l in
    (q.0, (w.0, w.1, w.2, subst (λ (x : ℕ). HasCorner w.0 x r') q.1 (subst (λ (x : ℕ). HasCorner w.0 t x) q.2 w.3)))
beside_triangle n o t r o' t' r' h m l l' (east e) =
    let q = one_spot n o t (r + 1) o' t' r' m (omega arith) (omega arith) (omega arith) in
    (q.0, (up t r, omega arith, inl (refl, refl), inr (inr (sym q.1, sym q.2))))
beside_triangle n o t r o' t' r' h m l l' (west e) =
    let q = one_spot n o t r o' t' (r' + 1) m (omega arith) (omega arith) (omega arith) in
    (q.0, (up t r', omega arith, inr (inr (refl, q.2)), inl (sym q.1, refl)))
beside_triangle n o t r o' t' r' h m l l' (north e) =
    let q = one_spot n o (t + 1) r o' t' r' m (omega arith) (omega arith) (omega arith) in
    (q.0, (up t r, omega arith, inl (refl, refl), inr (inl (sym q.1, sym q.2))))
beside_triangle n o t r o' t' r' h m l l' (north_west e) =
    let q = one_spot n o (t + 1) r o' t' (r' + 1) m (omega arith) (omega arith) (omega arith) in
    (q.0, (up t r', omega arith, inr (inr (refl, q.2)), inr (inl (sym q.1, refl))))
beside_triangle n o t r o' t' r' h m l l' (south e) =
    let q = one_spot n o t r o' (t' + 1) r' m (omega arith) (omega arith) (omega arith) in
    (q.0, (up t' r, omega arith, inr (inl (q.1, refl)), inl (refl, sym q.2)))
beside_triangle n o t r o' t' r' h m l l' (south_east e) =
    let q = one_spot n o t (r + 1) o' (t' + 1) r' m (omega arith) (omega arith) (omega arith) in
    (q.0, (up t' r, omega arith, inr (inl (q.1, refl)), inr (inr (refl, sym q.2))))
