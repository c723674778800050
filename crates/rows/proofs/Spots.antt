-- Spots and their octants, rows and columns. Assumes nothing.
use Prim.Native.Nat.{ℕ, ◌+◌, ◌*◌, ◌%◌, ◌^◌, ◌≤◌, ◌<◌}
use mathlib.Core.Path.{◌≡◌, ◌∙◌}
use mathlib.Core.Bool.{true, and-false}
use native.Mathlib.Omega.{arith}
use lib.Pow.{pow_mono}
use lib.Dec.{leb, ltb}
use borrow.Author.Tests.{le-leb, lt-ltb, le-ltb, leb-true, ltb-true}
use Rattle.bitset.proofs.Laws.{shifted}
use Rattle.refusal.proofs.Tests.{both, parts}
use Rattle.rows.specs.Rows.{spot_count, octant_rows, row_spots, spot, spot_in, octant_at, row_at, col_at, inside}

-- what a spot was made of
pub spot_octant : (o t r : ℕ) → t < octant_rows → r < row_spots → octant_at (spot o t r) ≡ o
spot_octant o t r h l = omega arith

pub spot_row : (o t r : ℕ) → t < octant_rows → r < row_spots → row_at (spot o t r) ≡ t
spot_row o t r h l = omega arith

pub spot_col : (o t r : ℕ) → t < octant_rows → r < row_spots → col_at (spot o t r) ≡ r
spot_col o t r h l = omega arith

-- and back
pub spot_again : (i : ℕ) → 640 ≤ i → spot (octant_at i) (row_at i) (col_at i) ≡ i
spot_again i h = omega arith

pub row_below : (i : ℕ) → row_at i < octant_rows
row_below i = omega arith

pub col_below : (i : ℕ) → col_at i < row_spots
col_below i = omega arith

-- the spot of a point of level k
pub record Inside (k i : ℕ) : Type 0 where
  pub octant : octant_at i < 8
  pub sum : row_at i + col_at i ≤ 2 ^ k
  pub again : spot (octant_at i) (row_at i) (col_at i) ≡ i

pub inside_is : (k i : ℕ) → inside k i ≡ true → Inside k i
unfolding inside
inside_is k i e =
    let p = parts _ _ e in
    let q = parts _ _ p.1 in
    record { octant = ltb-true _ _ q.0; sum = leb-true _ _ q.1; again = spot_again i (leb-true 640 i p.0) }

-- the parts of an octant's edge at a level to 8, as the code shifts them, and that they are at most 256
pub size_shifted : (k : ℕ) → k ≤ 8 → 1 * 2 ^ k % 2 ^ 32 ≡ 2 ^ k
size_shifted k h = shifted 32 k (omega arith)

pub size_low : (k : ℕ) → k ≤ 8 → 2 ^ k ≤ 256
size_low k h = pow_mono {i = k} {j = 8} h

-- row and column of a point of a level to 8 are at most 256
pub small : (k t r : ℕ) → k ≤ 8 → t + r ≤ 2 ^ k → (t < octant_rows) × (r < row_spots)
small k t r h l = let m = size_low k h in omega arith

pub inside_spot : (k o t r : ℕ) → k ≤ 8 → o < 8 → t + r ≤ 2 ^ k → inside k (spot o t r) ≡ true
unfolding inside
inside_spot k o t r h ho l =
    let s = small k t r h l in
    let eo : octant_at (spot o t r) ≡ o = omega arith in
    let et : row_at (spot o t r) ≡ t = omega arith in
    let er : col_at (spot o t r) ≡ r = omega arith in
    let a : ltb (octant_at (spot o t r)) 8 ≡ true = rw eo (lt-ltb o 8 ho) in
    let b : leb (row_at (spot o t r) + col_at (spot o t r)) (2 ^ k) ≡ true = rw (et, er) (le-leb (t + r) (2 ^ k) l) in
    both _ _ (le-leb 640 (spot o t r) (omega arith)) (both _ _ a b)

-- a spot has one octant, one row and one column
pub spot_same : (o t r o' t' r' : ℕ) → t < octant_rows → r < row_spots → t' < octant_rows → r' < row_spots → spot o t r ≡ spot o' t' r' → (o ≡ o') × (t ≡ t') × (r ≡ r')
spot_same o t r o' t' r' ht hr ht' hr' e = omega arith

-- all spots of octants 0 to 7 are in the words
pub spot_fits : (o t r : ℕ) → o < 8 → t < octant_rows → r < row_spots → spot o t r < spot_count
spot_fits o t r ho ht hr = omega arith

-- where there is such an octant, row and column, and where one of them is not there
pub spot_in_lem : (o t r : ℕ) → o < 8 → t < octant_rows → r < row_spots → spot_in o t r ≡ spot o t r
unfolding spot_in
spot_in_lem o t r ho ht hr = rw (lt-ltb o 8 ho, lt-ltb t octant_rows ht, lt-ltb r row_spots hr)

pub no_octant : (o t r : ℕ) → 8 ≤ o → spot_in o t r ≡ spot_count
unfolding spot_in
no_octant o t r h = rw (le-ltb o 8 h)

pub no_row : (o t r : ℕ) → octant_rows ≤ t → spot_in o t r ≡ spot_count
unfolding spot_in
no_row o t r h = rw (le-ltb t octant_rows h, and-false (ltb o 8))

pub no_col : (o t r : ℕ) → row_spots ≤ r → spot_in o t r ≡ spot_count
unfolding spot_in
no_col o t r h = rw (le-ltb r row_spots h, and-false (ltb t octant_rows), and-false (ltb o 8))

-- a spot that was computed, of an octant, a row and a column that are there
pub spot_told : {i : ℕ} (o t r : ℕ) → i ≡ spot_in o t r → o < 8 → t < octant_rows → r < row_spots → (i ≡ spot o t r) × (i < spot_count)
spot_told {i} o t r e ho ht hr = let f : i ≡ spot o t r = e ∙ spot_in_lem o t r ho ht hr in (f, omega arith)
