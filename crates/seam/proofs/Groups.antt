-- The four groups of pairs: the two spots of a pair are of one point, and no spot is in two pairs of a group. Assumes nothing.
use Prim.Native.Nat.{ℕ, ◌+◌, ◌*◌, ◌-◌, ◌/◌, ◌%◌, ◌^◌, ◌≤◌, ◌<◌}
use mathlib.Core.Path.{◌≡◌, sym, ap, ◌∙◌}
use native.Mathlib.Omega.{arith}
use Rattle.corner.specs.Corner.{corner}
use Rattle.corner.proofs.Laws.{equator, meridian}
use Rattle.code.specs.Step.{east}
use Rattle.rows.specs.Rows.{octant_rows, row_spots, spot, row_at, col_at}
use Rattle.rows.proofs.Spots.{spot_octant, spot_row, spot_col, spot_same, small, inside_spot}
use Rattle.seam.specs.Seam.{point_at}
use Rattle.seam.specs.declared.edges.Edge.{Edge}
use Rattle.seam.specs.declared.edges.Edge.TheVariants.{Meridian, Beside, Across, Equator}
use Rattle.seam.specs.inside.Pairs.{first_of, second_of, count_of}
use Rattle.seam.proofs.Pairs.{Apart}
use Rattle.seam.proofs.Joining.{Same}

-- ---- points

-- the point at the spot of an octant, a row and a column
pub point_spot : (k o t r : ℕ) → t < octant_rows → r < row_spots → point_at k (spot o t r) ≡ corner k o t r
unfolding point_at
point_spot k o t r ht hr =
    ap (λ (x : ℕ). corner k x (row_at (spot o t r)) (col_at (spot o t r))) (spot_octant o t r ht hr)
    ∙ ap (λ (x : ℕ). corner k o x (col_at (spot o t r))) (spot_row o t r ht hr)
    ∙ ap (corner k o t) (spot_col o t r ht hr)

-- the spots of equal corners
same-spots :
    (k o t r o' t' r' : ℕ) → k ≤ 8 → o < 8 → o' < 8 → t + r ≤ 2 ^ k → t' + r' ≤ 2 ^ k → corner k o t r ≡ corner k o' t' r'
    → Same k (spot o t r) (spot o' t' r')
same-spots k o t r o' t' r' h ho ho' l l' e =
    let s = small k t r h l in
    let s' = small k t' r' h l' in
    record {
      first_inside = inside_spot k o t r h ho l;
      second_inside = inside_spot k o' t' r' h ho' l';
      point = point_spot k o t r s.0 s.1 ∙ e ∙ sym (point_spot k o' t' r' s'.0 s'.1);
    }

-- the east edge of an octant is the west edge of the next
pub meridian_corner : (k o o' t r : ℕ) → o / 4 ≡ o' / 4 → o' % 4 ≡ (o % 4 + 1) % 4 → t + r ≡ 2 ^ k → corner k o t r ≡ corner k o' t 0
unfolding corner
meridian_corner k o o' t r q m e =
    let z : 2 ^ k - t - r ≡ 0 = omega arith in
    let y : 2 ^ k - t - 0 ≡ r = omega arith in
    rw (z, y) (meridian o o' r t q m)

equator_corner : (k o r : ℕ) → o < 4 → corner k o 0 r ≡ corner k (o + 4) 0 r
unfolding corner
equator_corner k o r h = equator o (o + 4) (2 ^ k - 0 - r) r (omega arith)

-- both spots of a pair are of one point
pub group_same : (k : ℕ) → k ≤ 8 → (e : Edge) (x : ℕ) → x < count_of e (2 ^ k) → Same k (first_of e (2 ^ k) x) (second_of e (2 ^ k) x)
unfolding first_of second_of count_of east
group_same k h Meridian x l =
    same-spots k (x % 8) (x / 8) (2 ^ k - x / 8) (east (x % 8)) (x / 8) 0 h (omega arith) (omega arith) (omega arith) (omega arith)
    (meridian_corner k (x % 8) (east (x % 8)) (x / 8) (2 ^ k - x / 8) (omega arith) (omega arith) (omega arith))
group_same k h Beside x l =
    same-spots k (2 * x) (2 ^ k) 0 (2 * x + 1) (2 ^ k) 0 h (omega arith) (omega arith) (omega arith) (omega arith)
    (meridian_corner k (2 * x) (2 * x + 1) (2 ^ k) 0 (omega arith) (omega arith) (omega arith))
group_same k h Across x l =
    let o : ℕ = x / 2 * 4 + x % 2 in
    same-spots k o (2 ^ k) 0 (o + 2) (2 ^ k) 0 h (omega arith) (omega arith) (omega arith) (omega arith)
    (meridian_corner k o (o + 1) (2 ^ k) 0 (omega arith) (omega arith) (omega arith)
    ∙ meridian_corner k (o + 1) (o + 2) (2 ^ k) 0 (omega arith) (omega arith) (omega arith))
group_same k h Equator x l =
    same-spots k (x % 4) 0 (x / 4) (x % 4 + 4) 0 (x / 4) h (omega arith) (omega arith) (omega arith) (omega arith)
    (equator_corner k (x % 4) (x / 4) (omega arith))

-- ---- apart

-- the spots of pairs, by their octants, rows and columns: none is in two pairs where they tell the pair and which of its two spots it is
module _ (o t r o' t' r' : ℕ → ℕ) (m : ℕ) (fits : (x : ℕ) → x < m → (t x < octant_rows) × (r x < row_spots) × (t' x < octant_rows) × (r' x < row_spots)) where
  apart_by :
      ((x y : ℕ) → x < m → y < m → o x ≡ o y → t x ≡ t y → r x ≡ r y → x ≡ y)
      → ((x y : ℕ) → x < m → y < m → o' x ≡ o' y → t' x ≡ t' y → r' x ≡ r' y → x ≡ y)
      → ((x y : ℕ) → x < m → y < m → o x ≡ o' y → t x ≡ t' y → r x ≡ r' y → ⊥)
      → Apart (λ x. spot (o x) (t x) (r x)) (λ x. spot (o' x) (t' x) (r' x)) m
  apart_by first second other x y hx hy d =
      let f = fits x hx in
      let g = fits y hy in (
        (
          (λ e. let s = spot_same (o x) (t x) (r x) (o y) (t y) (r y) f.0 f.1 g.0 g.1 e in d (first x y hx hy s.0 s.1 s.2)),
          (λ e. let s = spot_same (o x) (t x) (r x) (o' y) (t' y) (r' y) f.0 f.1 g.2 g.3 e in other x y hx hy s.0 s.1 s.2),
        ),
        (
          (λ e. let s = spot_same (o y) (t y) (r y) (o' x) (t' x) (r' x) g.0 g.1 f.2 f.3 (sym e) in other y x hy hx s.0 s.1 s.2),
          (λ e. let s = spot_same (o' x) (t' x) (r' x) (o' y) (t' y) (r' y) f.2 f.3 g.2 g.3 e in d (second x y hx hy s.0 s.1 s.2)),
        ),
      )

-- octants with the same octant to the east are the same
east_same : (o o' : ℕ) → east o ≡ east o' → o ≡ o'
unfolding east
east_same o o' e = omega arith

-- octant and row tell the pair
same_pair : (x y : ℕ) → x % 8 ≡ y % 8 → x / 8 ≡ y / 8 → x ≡ y
same_pair x y a b = omega arith

-- no spot is in two pairs of a group
pub group_apart : (n : ℕ) → n ≤ 256 → (e : Edge) → Apart (first_of e n) (second_of e n) (count_of e n)
unfolding first_of second_of count_of east
group_apart n h Meridian =
    apart_by (λ x. x % 8) (λ x. x / 8) (λ x. n - x / 8) (λ x. east (x % 8)) (λ x. x / 8) (λ x. 0) (8 * n) (λ x l. omega arith)
    (λ x y l l' a b c. omega arith) (λ x y l l' a b c. same_pair x y (east_same (x % 8) (y % 8) a) b) (λ x y l l' a b c. omega arith)
group_apart n h Beside =
    apart_by (λ x. 2 * x) (λ x. n) (λ x. 0) (λ x. 2 * x + 1) (λ x. n) (λ x. 0) 4 (λ x l. omega arith)
    (λ x y l l' a b c. omega arith) (λ x y l l' a b c. omega arith) (λ x y l l' a b c. omega arith)
group_apart n h Across =
    apart_by (λ x. x / 2 * 4 + x % 2) (λ x. n) (λ x. 0) (λ x. x / 2 * 4 + x % 2 + 2) (λ x. n) (λ x. 0) 4 (λ x l. omega arith)
    (λ x y l l' a b c. omega arith) (λ x y l l' a b c. omega arith) (λ x y l l' a b c. omega arith)
group_apart n h Equator =
    apart_by (λ x. x % 4) (λ x. 0) (λ x. x / 4) (λ x. x % 4 + 4) (λ x. 0) (λ x. x / 4) (4 * (n + 1)) (λ x l. omega arith)
    (λ x y l l' a b c. omega arith) (λ x y l l' a b c. omega arith) (λ x y l l' a b c. omega arith)
