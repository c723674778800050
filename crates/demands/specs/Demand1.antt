-- Demand 1: what is refused, and how (docs/RULES.md, 9).
use Rattle.std.specs.Prelude.{ℕ, ◌+◌, ◌-◌, ◌≤◌, ◌^◌, ◌≡◌, true, List, [], ◌∷◌, ◌++◌, ◌⊎◌, ◌↔◌, leb, ltb, eqb, ℤ, length, take, drop, replicate, Float}
use Rattle.refusal.specs.Answer.{Answer, given, refused, Test, ◌when◌, First, done}
use Rattle.refusal.specs.Tests.{bad_level, bad_length}
use Rattle.bitset.specs.Bits.{Bytes, marked, bytes_of, size}
use Rattle.varint.specs.Varint.{numeral, read_call, EndsEarly, NotInForm, write_call}
use Rattle.cell.specs.Cell.{Place, place, number, cells, max_level, bad_cell, bad_place, place_call, number_call}
use Rattle.position.specs.Position.{place_at, bad_latitude, bad_longitude, cell_call}
use Rattle.centre.specs.Centre.{centre, centre_call}
use Rattle.code.specs.Step.{step, found_or, code_to, bad_step, step_target, step_call, code_call}
use Rattle.border.specs.Stored.{code_bytes}
use Rattle.border.specs.Border.{bad_count, bad_number, bad_padding, level_read, start_read, count_read, header, cells_of, read_border, any_from, codes_of, border_bytes, write_border}
use Rattle.corner.specs.Corner.{touches, touch_call}
use Rattle.adjacency.specs.Touch.{touching, padded, list_call}
use Rattle.mask.specs.Mask.{max_mask_level, mask_call, count_call, union, join_call, difference, lowest, within_call}
use Rattle.grow.specs.Grow.{bad_rings, grown_cells, shrunk_cells, grow_call, shrink_call}
use Rattle.fill.specs.Fill.{unreached, bad_outside, fill_call}
use Rattle.chart.specs.Chart.{chart_call, reading_at, reading_call}
use Rattle.day.specs.Day.{temperatures_after, ages_after, summary_after, bad_days, day_call}

-- a test with the number n applies
abbrev pub Applies : ℕ → List Test → Type 0
Applies n [] = ⊥
Applies n ((m when b) ∷ ts) = ((n ≡ m) × (b ≡ true)) ⊎ Applies n ts

-- n is the lowest number that applies
pub record Lowest (n : ℕ) (ts : List Test) : Type 0 where
  pub applies : Applies n ts
  pub least : (m : ℕ) → Applies m ts → n ≤ m

-- a call answers by its tests
pub record ByTests {A : Type 0} (ts : List Test) (answer : Answer A) (value : A) : Type 0 where
  -- it is refused exactly when one of them applies, and then by the lowest number that applies
  pub refuses : (n : ℕ) → (answer ≡ refused n) ↔ Lowest n ts
  -- and gives its value exactly when none applies
  pub gives : (answer ≡ given value) ↔ ((n : ℕ) → Applies n ts → ⊥)

-- what a call leaves in the slices that it is lent, which hold `before` when it is made
pub record Lends {A S : Type 0} (result : Answer A × S) (value : A) (before after : S) : Type 0 where
  -- a refused one leaves every lent slice as it was
  pub leaves : (n : ℕ) → result.0 ≡ refused n → result.1 ≡ before
  -- one that is not refused writes them
  pub writes : result.0 ≡ given value → result.1 ≡ after

-- a call that is lent slices answers by its tests
pub record LentByTests {A S : Type 0} (ts : List Test) (result : Answer A × S) (value : A) (before after : S) : Type 0 where
  pub answers : ByTests ts result.0 value
  pub slices : Lends result value before after

-- where the rules give another order: it is refused by the first of its tests that applies, and gives its value exactly when none does
pub record InOrder {A S : Type 0} (ts : List Test) (result : Answer A × S) (value : A) (before after : S) : Type 0 where
  pub refuses : (n : ℕ) → (result.0 ≡ refused n) ↔ First n ts
  pub gives : (result.0 ≡ given value) ↔ ((n : ℕ) → Applies n ts → ⊥)
  pub slices : Lends result value before after

-- Demand 1, call by call: the tests, each under its number, are those that the table in docs/RULES.md, 9, gives the call
pub record Demand1 : Type 0 where
  -- place of a number: 1, 4
  pub place_of : (k n : ℕ) → ByTests (bad_level max_level k ∷ bad_cell k n ∷ []) (place_call k n) (place k n)
  -- number of a place: 1, 4
  pub number_of : (k : ℕ) (p : Place) → ByTests (bad_level max_level k ∷ bad_place k p ∷ []) (number_call k p) (number k p)
  -- cell at a position: 1, 2, 3
  pub cell_at : (k : ℕ) (y x : ℤ) →
      ByTests (bad_level max_level k ∷ bad_latitude y ∷ bad_longitude x ∷ []) (cell_call k y x) (number k (place_at k y x))
  -- centre of a cell: 1, 4
  pub centre_of : (k n : ℕ) → ByTests (bad_level max_level k ∷ bad_cell k n ∷ []) (centre_call k n) (centre k (place k n))
  -- step along a code: 1, 4, 7
  pub step_along : (k n c : ℕ) →
      ByTests (bad_level max_level k ∷ bad_cell k n ∷ bad_step (step k (place k n) c) ∷ [])
      (step_call k n c) (number k (step_target k n c))
  -- code between two cells: 1, 4, 7
  pub code_between : (k m n : ℕ) →
      ByTests (bad_level max_level k ∷ bad_cell k m ∷ bad_cell k n ∷ bad_step (code_to k n (place k m)) ∷ [])
      (code_call k m n) (found_or 0 (code_to k n (place k m)))
  -- whether two cells touch: 1, 4
  pub cells_touch : (k m n : ℕ) → ByTests (bad_level max_level k ∷ bad_cell k m ∷ bad_cell k n ∷ []) (touch_call k m n) (touches k m n)
  -- the list of touching cells: 1, 4, 5
  pub touching_cells : (k n : ℕ) (out : List ℕ) →
      LentByTests (bad_level max_level k ∷ bad_cell k n ∷ bad_length 12 out ∷ [])
      (list_call k n out) (length (touching k n)) out (padded (touching k n))
  -- whether a slice is a mask: 1, 5
  pub is_mask : (k : ℕ) (a : List ℕ) → ByTests (bad_level max_mask_level k ∷ bad_length (4 ^ k) a ∷ []) (mask_call k a) done
  -- the count of marked cells: 1, 5
  pub count : (k : ℕ) (a : List ℕ) →
      ByTests (bad_level max_mask_level k ∷ bad_length (4 ^ k) a ∷ []) (count_call k a) (size (cells k) (marked a))
  -- join: 1, 5
  pub join : (k : ℕ) (a b out : List ℕ) →
      LentByTests (bad_level max_mask_level k ∷ bad_length (4 ^ k) a ∷ bad_length (4 ^ k) b ∷ bad_length (4 ^ k) out ∷ [])
      (join_call k a b out) done out (bytes_of (4 ^ k) (union (marked a) (marked b)))
  -- within: 1, 5
  pub within : (k : ℕ) (a b : List ℕ) →
      ByTests (bad_level max_mask_level k ∷ bad_length (4 ^ k) a ∷ bad_length (4 ^ k) b ∷ [])
      (within_call k a b) (lowest (difference (marked a) (marked b)) (cells k) 0)
  -- grow: 1, 5, 6
  pub grow : (k m : ℕ) (a out work : List ℕ) →
      LentByTests (bad_level max_mask_level k ∷ bad_length (4 ^ k) a ∷ bad_length (4 ^ k) out ∷ bad_length (4 ^ k) work ∷ bad_rings m ∷ [])
      (grow_call k m a out work) done (out, work) (bytes_of (4 ^ k) (grown_cells k m (marked a)), replicate (4 ^ k) 0)
  -- shrink: 1, 5, 6
  pub shrink : (k m : ℕ) (a out work : List ℕ) →
      LentByTests (bad_level max_mask_level k ∷ bad_length (4 ^ k) a ∷ bad_length (4 ^ k) out ∷ bad_length (4 ^ k) work ∷ bad_rings m ∷ [])
      (shrink_call k m a out work) done (out, work) (bytes_of (4 ^ k) (shrunk_cells k m (marked a)), replicate (4 ^ k) 0)
  -- fill: 1, 4, 5, 8
  pub fill : (k : ℕ) (a : List ℕ) (o : ℕ) (out : List ℕ) →
      LentByTests (bad_level max_mask_level k ∷ bad_cell k o ∷ bad_length (4 ^ k) a ∷ bad_length (4 ^ k) out ∷ bad_outside a o ∷ [])
      (fill_call k a o out) done out (bytes_of (4 ^ k) (unreached k (marked a) o))
  -- reading of a cell: 1, 4, 5
  pub reading_of : (k : ℕ) (temps : List Float) (ages : List ℕ) (c : ℕ) →
      ByTests (bad_level max_mask_level k ∷ bad_cell k c ∷ bad_length (cells k) temps ∷ bad_length (cells k) ages ∷ [])
      (reading_call k temps ages c) (reading_at temps ages c)
  -- whether two slices are a chart: 1, 5
  pub is_chart : (k : ℕ) (temps : List Float) (ages : List ℕ) →
      ByTests (bad_level max_mask_level k ∷ bad_length (cells k) temps ∷ bad_length (cells k) ages ∷ []) (chart_call k temps ages) done
  -- one day: 1, 5, 6
  pub day : (k d : ℕ) (new : List Float) (clouds : List ℕ) (temps : List Float) (ages : List ℕ) →
      LentByTests
      (bad_level max_mask_level k
      ∷ bad_length (cells k) temps ∷ bad_length (cells k) ages ∷ bad_length (cells k) new ∷ bad_length (4 ^ k) clouds
      ∷ bad_days d ∷ [])
      (day_call k d new clouds temps ages) (summary_after (cells k) d new clouds temps ages)
      (record { temperatures = temps; ages = ages })
      (record { temperatures = temperatures_after (cells k) d new clouds temps ages; ages = ages_after (cells k) d new clouds temps ages })
  -- a stored number: 10 where its bytes end early, 11 where it is not in its form, and no other number
  pub read_number : (bs : List ℕ) (at n : ℕ) → Bytes bs →
      (read_call bs at ≡ refused n) ↔ (((n ≡ 10) × EndsEarly (drop at bs)) ⊎ ((n ≡ 11) × NotInForm (drop at bs)))
  -- writing one: 5 where its bytes don't fit
  pub write_number : (n at : ℕ) (out : List ℕ) →
      let next = at + length (numeral n) in
      LentByTests ((5 when ltb (length out) next) ∷ []) (write_call n out at) next out (take at out ++ (numeral n ++ drop next out))
  -- the border reader: level, start cell and number of codes, of each first whether the number is sound (10, 11) and then whether it is too high (1, 4,
  -- 9); after these whether the codes' bytes are there (10), nothing else is (12), the cells have room (5) and every step exists (7)
  pub reading_border : (bs out : List ℕ) →
      let (k, start, n, at) = header bs in
      let found = found_or [] (cells_of bs (header bs)) in
      InOrder
      (bad_number (level_read bs) ∷ bad_level max_level k
      ∷ bad_number (start_read bs) ∷ bad_cell k start
      ∷ bad_number (count_read bs) ∷ bad_count n
      ∷ (10 when ltb (length bs) (at + code_bytes n))
      ∷ (12 when ltb (at + code_bytes n) (length bs)) ∷ bad_padding n (drop at bs)
      ∷ (5 when leb (length out) n)
      ∷ bad_step (cells_of bs (header bs)) ∷ [])
      (read_border bs out) (k, length found) out (found ++ drop (length found) out)
  -- the border writer: the level (1), no cells at all (5), too many codes (9), the cells (4), the steps between them (7), the room (5)
  pub writing_border : (k : ℕ) (cs out : List ℕ) →
      InOrder
      (bad_level max_level k
      ∷ (5 when eqb (length cs) 0)
      ∷ bad_count (length cs - 1)
      ∷ (4 when any_from (cells k) cs)
      ∷ bad_step (codes_of k cs)
      ∷ (5 when ltb (length out) (length (border_bytes k cs))) ∷ [])
      (write_border k cs out) (length (border_bytes k cs)) out (border_bytes k cs ++ drop (length (border_bytes k cs)) out)
