-- Demand 2: cells and their numbers, positions, centres, steps, touching, filling, what a day leaves and answers, and stored borders are as
-- docs/RULES.md, 1 to 8, says, by the calls' answers.
use Rattle.std.specs.Prelude.{ℕ, suc, ◌+◌, ◌*◌, ◌-◌, ◌/◌, ◌^◌, ◌≤◌, ◌<◌, ◌≡◌, Bool, true, false, List, [], ◌∷◌, ◌++◌, map, ◌⊎◌, ◌↔◌, ℤ, pos, nat_abs, neg_ℤ, ◌+ℤ◌, length, take, drop, get_or, replicate, Float}
use Rattle.std.specs.Float.{nan, inf}
use Rattle.refusal.specs.Answer.{Answer, given, refused, done}
use Rattle.bitset.specs.Bits.{Bytes, bit, marked, size}
use Rattle.cell.specs.Cell.{Triangle, up, down, child, Place, place, Occurs, cells, max_level, place_call, number_call}
use Rattle.position.specs.Position.{q, latitude_out, longitude_out, beginning, north_octant, offset, octant, Holds, cell_call}
use Rattle.centre.specs.Centre.{centre_call}
use Rattle.code.specs.Step.{across, east, west, step_call, code_call}
use Rattle.code.specs.Neighbours.{back, direct, is_direct, Neighbours}
use Rattle.varint.specs.Varint.{numeral, read_call, Exactly, EndsEarly, NotInForm}
use Rattle.border.specs.Border.{read_border, border_bytes, write_border}
use Rattle.corner.specs.Corner.{Point, norm, corners, touch_call}
use Rattle.adjacency.specs.Touch.{rising, indirect, CornerCell, cells_at, Tip, unused, list_call}
use Rattle.mask.specs.Mask.{max_mask_level}
use Rattle.fill.specs.Fill.{Reachable, fill_call}
use Rattle.chart.specs.Chart.{in_range, Reading, fresh, carried, gap, temperature_at, age_at, reading_call}
use Rattle.day.specs.Day.{nought, Summary, is_fresh, Coldest, Warmest, day_call}

-- ---- the steps inside an octant, line by line

-- the codes 0 to 4 are t, l, r, e, w: along the code, from one triangle to another
pub data Inside : ℕ → Triangle → Triangle → Type 0 where
  up_t : {a b : ℕ} → Inside 0 (up (a + 1) b) (down a b)
  up_l : {a b : ℕ} → Inside 1 (up a (b + 1)) (down a b)
  up_r : {a b : ℕ} → Inside 2 (up a b) (down a b)
  down_t : {a b : ℕ} → Inside 0 (down a b) (up (a + 1) b)
  down_l : {a b : ℕ} → Inside 1 (down a b) (up a b)
  down_r : {a b : ℕ} → Inside 2 (down a b) (up a (b + 1))
  up_e : {a b : ℕ} → Inside 3 (up a b) (up a (b + 1))
  up_w : {a b : ℕ} → Inside 4 (up a (b + 1)) (up a b)
  down_e : {a b : ℕ} → Inside 3 (down a b) (down a (b + 1))
  down_w : {a b : ℕ} → Inside 4 (down a (b + 1)) (down a b)

-- ---- lists

-- x stands in a list
abbrev pub In : {A : Type 0} → A → List A → Type 0
In x [] = ⊥
In x (y ∷ ys) = (x ≡ y) ⊎ In x ys

-- a list rises, from m on
abbrev pub Rises : ℕ → List ℕ → Type 0
Rises m [] = Unit {0}
Rises m (x ∷ xs) = (m ≤ x) × Rises (x + 1) xs

-- what a slice of 12 holds where j cells are listed in it: exactly the cells that touch cell n, each once, rising, and then unused places
pub record TouchList (k n j : ℕ) (slice : List ℕ) : Type 0 where
  pub listed : List ℕ
  pub count : length listed ≡ j
  pub room : j ≤ 12
  pub holds : slice ≡ listed ++ replicate (12 - j) unused
  pub rises : Rises 0 listed
  pub exactly : (m : ℕ) → In m listed ↔ (touch_call k n m ≡ given true)

-- ---- centres

-- w is the whole part of x / d
abbrev pub WholePart : ℕ → ℕ → ℕ → Type 0
WholePart w x d = (w * d ≤ x) × (x < (w + 1) * d)

-- (y, x) is the centre of a cell of row a and column b in octant o
pub record CentreIs (k o a b s : ℕ) (y x : ℤ) : Type 0 where
  -- whole parts both: p of q·(3a+s) / 3N, and m, by that p, of (3b+s)·q² / 3N·(q−p)
  pub p : ℕ
  pub m : ℕ
  pub p_is : WholePart p (q * (3 * a + s)) (3 * 2 ^ k)
  pub m_is : WholePart m ((3 * b + s) * (q * q)) (3 * 2 ^ k * (q - p))
  -- p is the latitude without its sign, which is negative in the south; m is how far east of the octant's beginning the centre lies
  pub north : o < 4 → y ≡ pos p
  pub south : 4 ≤ o → y ≡ neg_ℤ (pos p)
  pub longitude : x ≡ beginning o +ℤ pos m

-- ---- borders

-- the bytes of a border of level k through cells
pub record Layout (k : ℕ) (cs bs : List ℕ) : Type 0 where
  -- from each cell a code leads to the next
  pub codes : List ℕ
  pub count : length cs ≡ suc (length codes)
  pub leads : (i : ℕ) → i < length codes → step_call k (get_or cs i 0) (get_or codes i 0) ≡ given (get_or cs (suc i) 0)
  -- level, start cell and number of codes, and then the codes' bytes
  pub last : List ℕ
  pub numbers : bs ≡ numeral k ++ (numeral (get_or cs 0 0) ++ (numeral (length codes) ++ last))
  -- three bits a code, low bits first: bit 3i + j is bit j of code i; and in the last byte zeros after them
  pub bytes : (length last ≡ (3 * length codes + 7) / 8) × Bytes last
  pub three_bits : (i j : ℕ) → i < length codes → j < 3 → marked last (3 * i + j) ≡ bit (get_or codes i 0) j
  pub padding : (c : ℕ) → 3 * length codes ≤ c → c < 8 * length last → marked last c ≡ false

-- ---- readings

-- two slices are a chart of level k
abbrev pub IsChart : ℕ → List Float → List ℕ → Type 0
IsChart k temps ages = (k ≤ max_mask_level) × (length temps ≡ cells k) × (length ages ≡ cells k)

-- whether a call answers fresh
abbrev pub answers_fresh : Answer Reading → Bool
answers_fresh (given r) = is_fresh r
answers_fresh (refused n) = false

-- ---- the demand

pub record Demand2 : Type 0 where
  -- a number's place has that number, and a place's number has that place
  pub numbered : (k n : ℕ) (p : Place) → (place_call k n ≡ given p) ↔ (number_call k p ≡ given n)
  -- the places that a level has are those of `Occurs`: up and down triangles within the octant's diagonal, in octants 0 to 7
  pub places : (k : ℕ) (p : Place) → k ≤ max_level → ((n : ℕ) × (place_call k n ≡ given p)) ↔ Occurs k p
  -- at level 0 every octant is one cell, which points up
  pub level_zero : (n : ℕ) → n < 8 → place_call 0 n ≡ given (n, up 0 0)
  -- child d of cell n of level k, by the table of children, is cell 4n + d of level k + 1
  pub children : (k n d : ℕ) (p : Place) → suc k ≤ max_level → d < 4 → place_call k n ≡ given p →
      place_call (suc k) (4 * n + d) ≡ given (p.0, child p.1 d)
  -- every position of the ranges has a cell at every level to 14
  pub has_cell : (k : ℕ) (y x : ℤ) → k ≤ max_level → latitude_out y ≡ false → longitude_out x ≡ false →
      (n : ℕ) × (n < cells k) × (cell_call k y x ≡ given n)
  -- a longitude is its octant's beginning and m, and m is below q
  pub longitude : (x : ℤ) → longitude_out x ≡ false → (beginning (north_octant x) +ℤ pos (offset x) ≡ x) × (offset x < q)
  -- below the poles the cell answered lies in the position's octant, and holds the position
  pub cell_holds : (k : ℕ) (y x : ℤ) (n : ℕ) → cell_call k y x ≡ given n → nat_abs y < q →
      ((place k n).0 ≡ octant y x) × Holds k (nat_abs y) (offset x) (place k n).1
  -- and no other cell of that octant holds it
  pub cell_alone : (k : ℕ) (y x : ℤ) (n m : ℕ) → cell_call k y x ≡ given n → nat_abs y < q →
      (place k m).0 ≡ octant y x → Holds k (nat_abs y) (offset x) (place k m).1 → m ≡ n
  -- at a pole it is the cell at the pole, up(N−1,0), in the octant of the longitude given
  pub at_pole : (k : ℕ) (y x : ℤ) (n : ℕ) → cell_call k y x ≡ given n → nat_abs y ≡ q → place k n ≡ (octant y x, up (2 ^ k - 1) 0)
  -- the south mirrors the north: the cell at −y is that at y, four octants on
  pub south_mirrors : (k y : ℕ) (x : ℤ) (n : ℕ) → 1 ≤ y →
      (cell_call k (pos y) x ≡ given n) ↔ (cell_call k (neg_ℤ (pos y)) x ≡ given (n + 4 * 4 ^ k))
  -- the cell of a position one level up is the parent of its cell, at the poles too
  pub cell_nests : (k : ℕ) (y x : ℤ) (n : ℕ) → cell_call (suc k) y x ≡ given n → cell_call k y x ≡ given (n / 4)
  -- every cell of every level to 14 has a centre, and the cell at that centre is the cell
  pub has_centre : (k n : ℕ) → k ≤ max_level → n < cells k →
      (c : ℤ × ℤ) × (centre_call k n ≡ given c) × (cell_call k c.0 c.1 ≡ given n)
  -- it is where the formula puts it, with s = 1 for up and s = 2 for down
  pub centre_up : (k n o a b : ℕ) (y x : ℤ) → place_call k n ≡ given (o, up a b) → centre_call k n ≡ given (y, x) → CentreIs k o a b 1 y x
  pub centre_down : (k n o a b : ℕ) (y x : ℤ) → place_call k n ≡ given (o, down a b) → centre_call k n ≡ given (y, x) → CentreIs k o a b 2 y x
  -- whatever centre is given leads back
  pub centre_returns : (k n : ℕ) (y x : ℤ) → centre_call k n ≡ given (y, x) → cell_call k y x ≡ given n
  -- t, l, r, e and w lead where the lines above say, and inside the octant only
  pub inside_octant : (k n m c : ℕ) → c < 5 →
      (step_call k n c ≡ given m) ↔
      ((o : ℕ) × (f : Triangle) × (g : Triangle) × (place_call k n ≡ given (o, f)) × (place_call k m ≡ given (o, g)) × Inside c f g)
  -- T leads from the up cells of row 0, and from no others, to the same row and column across the equator
  pub T_leads : (k n m : ℕ) → (step_call k n 5 ≡ given m) ↔
      ((o : ℕ) × (b : ℕ) × (place_call k n ≡ given (o, up 0 b)) × (place_call k m ≡ given (across o, up 0 b)))
  -- E leads from the up cells at the east edge, and from no others, to column 0 of the next octant to the east
  pub E_leads : (k n m : ℕ) → (step_call k n 6 ≡ given m) ↔
      ((o : ℕ) × (a : ℕ) × (b : ℕ) × (a + b + 1 ≡ 2 ^ k) ×
      (place_call k n ≡ given (o, up a b)) × (place_call k m ≡ given (east o, up a 0)))
  -- W leads from the up cells of column 0, and from no others, to the last up cell of the row in the next octant to the west
  pub W_leads : (k n m : ℕ) → (step_call k n 7 ≡ given m) ↔
      ((o : ℕ) × (a : ℕ) × (place_call k n ≡ given (o, up a 0)) × (place_call k m ≡ given (west o, up a (2 ^ k - 1 - a))))
  -- to the east the northern octants follow one another in a ring, and so do the southern ones
  pub east_runs : map east (0 ∷ 1 ∷ 2 ∷ 3 ∷ 4 ∷ 5 ∷ 6 ∷ 7 ∷ []) ≡ 1 ∷ 2 ∷ 3 ∷ 0 ∷ 5 ∷ 6 ∷ 7 ∷ 4 ∷ []
  -- a code above 7 is refused 7
  pub code_above : (k n c : ℕ) → k ≤ max_level → n < cells k → 7 < c → step_call k n c ≡ refused 7
  -- the code between two cells is c exactly when the step along c leads from the one to the other
  pub code_is : (k n m c : ℕ) → (code_call k n m ≡ given c) ↔ (step_call k n c ≡ given m)
  -- no two codes lead from a cell to one cell
  pub one_code : (k n c d m : ℕ) → step_call k n c ≡ given m → step_call k n d ≡ given m → c ≡ d
  -- two cells of the level are refused 7 exactly when no code joins them
  pub no_code : (k n m : ℕ) → k ≤ max_level → n < cells k → m < cells k →
      (code_call k n m ≡ refused 7) ↔ ((c : ℕ) → ¬ (step_call k n c ≡ given m))
  -- a step can be taken back, along the code back
  pub step_back : (k n c m : ℕ) → step_call k n c ≡ given m → step_call k m (back c) ≡ given n
  -- every cell has three direct neighbours and no more: one across each side, by t or T, by l or W, by r or E
  pub three_neighbours : (k n : ℕ) → k ≤ max_level → n < cells k → Neighbours k n
  pub three_direct : (k n : ℕ) → n < cells k → length (rising (is_direct k n) (cells k) 0) ≡ 3
  -- the direct neighbours that filling goes by are those to which a direct code leads
  pub direct_step : (k n m : ℕ) → k ≤ max_level → n < cells k →
      (is_direct k n m ≡ true) ↔ ((c : ℕ) × (direct c ≡ true) × (step_call k n c ≡ given m))
  -- cells touch exactly when they are not one cell and share a point
  pub touch_point : (k n m : ℕ) → k ≤ max_level → n < cells k → m < cells k →
      (touch_call k n m ≡ given true) ↔ (¬ (n ≡ m) × ((x : Point) × In x (corners k (place k n)) × In x (corners k (place k m))))
  -- touching is mutual, refusals too
  pub touch_mutual : (k n m : ℕ) → touch_call k n m ≡ touch_call k m n
  -- direct neighbours touch
  pub neighbours_touch : (k n m c : ℕ) → direct c ≡ true → step_call k n c ≡ given m → touch_call k n m ≡ given true
  -- the list of touching cells has just these cells, each once and in ascending order, and then unused places up to 12
  pub touch_list : (k n j : ℕ) (out : List ℕ) → (list_call k n out).0 ≡ given j → TouchList k n j (list_call k n out).1
  -- a cell of level 0 touches 6 others; above level 0 a corner cell of its octant touches 10, any other cell 12
  pub six_touch : (n j : ℕ) (out : List ℕ) → (list_call 0 n out).0 ≡ given j → j ≡ 6
  pub ten_touch : (k n j : ℕ) (out : List ℕ) → (list_call k n out).0 ≡ given j → 1 ≤ k → CornerCell k (place k n) → j ≡ 10
  pub twelve_touch : (k n j : ℕ) (out : List ℕ) → (list_call k n out).0 ≡ given j → 1 ≤ k → ¬ CornerCell k (place k n) → j ≡ 12
  -- a corner cell has seven indirect neighbours, at level 0 three
  pub seven_indirect : (k n : ℕ) → 1 ≤ k → n < cells k → CornerCell k (place k n) → length (indirect k n) ≡ 7
  pub three_indirect : (n : ℕ) → n < cells 0 → length (indirect 0 n) ≡ 3
  -- points on the edges of octants are points like others: six cells meet at each, but four at the octahedron's six corners
  pub six_meet : (k : ℕ) (x y z : ℤ) → norm (x ∷ y ∷ z ∷ []) ≡ 2 ^ k → ¬ Tip (x ∷ y ∷ z ∷ []) → length (cells_at k (x ∷ y ∷ z ∷ [])) ≡ 6
  pub four_meet : (k : ℕ) (x y z : ℤ) → norm (x ∷ y ∷ z ∷ []) ≡ 2 ^ k → Tip (x ∷ y ∷ z ∷ []) → length (cells_at k (x ∷ y ∷ z ∷ [])) ≡ 4
  -- a cell is filled exactly when no chain of direct steps over unmarked cells leads to it from the outside cell
  pub fill_exactly : (k : ℕ) (a : List ℕ) (o : ℕ) (out : List ℕ) → (fill_call k a o out).0 ≡ given done →
      (c : ℕ) → c < cells k → (marked (fill_call k a o out).1 c ≡ true) ↔ ¬ Reachable k (marked a) o c
  -- so the border itself is filled
  pub border_filled : (k : ℕ) (a : List ℕ) (o : ℕ) (out : List ℕ) → (fill_call k a o out).0 ≡ given done →
      (c : ℕ) → c < cells k → marked a c ≡ true → marked (fill_call k a o out).1 c ≡ true
  -- and the outside cell is not
  pub outside_open : (k : ℕ) (a : List ℕ) (o : ℕ) (out : List ℕ) → (fill_call k a o out).0 ≡ given done →
      marked (fill_call k a o out).1 o ≡ false
  -- a cell reads fresh with t exactly when its age is 0 and its temperature, in range, is t
  pub reads_fresh : (k : ℕ) (temps : List Float) (ages : List ℕ) (c : ℕ) → IsChart k temps ages → c < cells k → (t : Float) →
      (reading_call k temps ages c ≡ given (fresh t)) ↔ ((age_at ages c ≡ 0) × (temperature_at temps c ≡ t) × (in_range t ≡ true))
  -- carried with t and m days exactly when its age is m, 1 to 30, and its temperature, in range, is t
  pub reads_carried : (k : ℕ) (temps : List Float) (ages : List ℕ) (c : ℕ) → IsChart k temps ages → c < cells k → (t : Float) (m : ℕ) →
      (reading_call k temps ages c ≡ given (carried t m)) ↔
      ((age_at ages c ≡ m) × (1 ≤ m) × (m ≤ 30) × (temperature_at temps c ≡ t) × (in_range t ≡ true))
  -- and a gap exactly when its age is above 30 or its temperature is out of range
  pub reads_gap : (k : ℕ) (temps : List Float) (ages : List ℕ) (c : ℕ) → IsChart k temps ages → c < cells k →
      (reading_call k temps ages c ≡ given gap) ↔ ((30 < age_at ages c) ⊎ (in_range (temperature_at temps c) ≡ false))
  -- NaN and the infinities are out of range
  pub nan_out : (in_range nan ≡ false) × ((minus : Bool) → in_range (inf minus) ≡ false)
  -- after a day a cell reads fresh with t exactly when the mask leaves it open and its new temperature, in range, is t
  pub day_fresh : (k d : ℕ) (new : List Float) (clouds : List ℕ) (temps : List Float) (ages : List ℕ) (s : Summary) →
      let after = day_call k d new clouds temps ages in
      let left = after.1 in
      after.0 ≡ given s → (c : ℕ) → c < cells k → (t : Float) →
      (reading_call k left.temperatures left.ages c ≡ given (fresh t)) ↔
      ((marked clouds c ≡ false) × (in_range (temperature_at new c) ≡ true) × (temperature_at new c ≡ t))
  -- it is carried with t and m days exactly when the mask covers it or its new temperature is out of range, t is its old temperature, in range, and m
  -- is one more than its age and at most the limit
  pub day_carried : (k d : ℕ) (new : List Float) (clouds : List ℕ) (temps : List Float) (ages : List ℕ) (s : Summary) →
      let after = day_call k d new clouds temps ages in
      let left = after.1 in
      after.0 ≡ given s → (c : ℕ) → c < cells k → (t : Float) (m : ℕ) →
      (reading_call k left.temperatures left.ages c ≡ given (carried t m)) ↔
      (((marked clouds c ≡ true) ⊎ (in_range (temperature_at new c) ≡ false)) ×
      ((in_range (temperature_at temps c) ≡ true) × (temperature_at temps c ≡ t) × (age_at ages c + 1 ≡ m) × (m ≤ d)))
  -- and a gap exactly when the mask covers it or its new temperature is out of range, and it is past the limit or its old temperature is out of range
  pub day_gap : (k d : ℕ) (new : List Float) (clouds : List ℕ) (temps : List Float) (ages : List ℕ) (s : Summary) →
      let after = day_call k d new clouds temps ages in
      let left = after.1 in
      after.0 ≡ given s → (c : ℕ) → c < cells k →
      (reading_call k left.temperatures left.ages c ≡ given gap) ↔
      (((marked clouds c ≡ true) ⊎ (in_range (temperature_at new c) ≡ false)) ×
      ((d < age_at ages c + 1) ⊎ (in_range (temperature_at temps c) ≡ false)))
  -- the summary's count is the number of cells that read fresh after the day
  pub day_count : (k d : ℕ) (new : List Float) (clouds : List ℕ) (temps : List Float) (ages : List ℕ) (s : Summary) →
      let after = day_call k d new clouds temps ages in
      let left = after.1 in
      after.0 ≡ given s → s.count ≡ size (cells k) (λ c. answers_fresh (reading_call k left.temperatures left.ages c))
  -- where it is above 0, coldest is the temperature of a cell that reads fresh, at most that of any such cell, and of equals that of the first
  pub day_coldest : (k d : ℕ) (new : List Float) (clouds : List ℕ) (temps : List Float) (ages : List ℕ) (s : Summary) →
      let after = day_call k d new clouds temps ages in
      let left = after.1 in
      after.0 ≡ given s → 1 ≤ s.count → Coldest (cells k) (λ c t. reading_call k left.temperatures left.ages c ≡ given (fresh t)) s.coldest
  -- and warmest likewise, at least that of any
  pub day_warmest : (k d : ℕ) (new : List Float) (clouds : List ℕ) (temps : List Float) (ages : List ℕ) (s : Summary) →
      let after = day_call k d new clouds temps ages in
      let left = after.1 in
      after.0 ≡ given s → 1 ≤ s.count → Warmest (cells k) (λ c t. reading_call k left.temperatures left.ages c ≡ given (fresh t)) s.warmest
  -- where it is 0 they are 0.0 twice
  pub day_none : (k d : ℕ) (new : List Float) (clouds : List ℕ) (temps : List Float) (ages : List ℕ) (s : Summary) →
      (day_call k d new clouds temps ages).0 ≡ given s → s.count ≡ 0 → (s.coldest ≡ nought) × (s.warmest ≡ nought)
  -- stored numbers: a number is read from where it was written
  pub number_read : (n at : ℕ) (front rest : List ℕ) → n < 2 ^ 32 → length front ≡ at →
      read_call (front ++ (numeral n ++ rest)) at ≡ given (n, at + length (numeral n))
  -- and what is read is below 2^32, in the shortest form, and of no other bytes
  pub number_exactly : (bs : List ℕ) (at v next : ℕ) → Bytes bs → read_call bs at ≡ given (v, next) → Exactly bs at v next
  -- a number is refused 10 exactly when its bytes are fewer than five, each with its high bit set
  pub number_ends_early : (bs : List ℕ) (at : ℕ) → (read_call bs at ≡ refused 10) ↔ EndsEarly (drop at bs)
  -- and 11 exactly when five have their high bit set, or the number is 2^32 or above, or not in its shortest form
  pub number_not_in_form : (bs : List ℕ) (at : ℕ) → Bytes bs → (read_call bs at ≡ refused 11) ↔ NotInForm (drop at bs)
  -- a border stored and read is the same border: what the writer writes, the reader reads as the same level and cells
  pub border_read : (k : ℕ) (cs out lent : List ℕ) (n : ℕ) → (write_border k cs out).0 ≡ given n → length cs ≤ length lent →
      read_border (take n (write_border k cs out).1) lent ≡ (given (k, length cs), cs ++ drop (length cs) lent)
  -- accepted bytes are those the writer writes for what was read
  pub border_written : (bs out lent : List ℕ) (k n : ℕ) → Bytes bs → (read_border bs out).0 ≡ given (k, n) → length bs ≤ length lent →
      write_border k (take n (read_border bs out).1) lent ≡ (given (length bs), bs ++ drop (length bs) lent)
  -- what is written: three stored numbers for level, start cell and number of codes, and the codes' bits
  pub border_layout : (k : ℕ) (cs out : List ℕ) (n : ℕ) → (write_border k cs out).0 ≡ given n → Layout k cs (take n (write_border k cs out).1)
  -- reader and writer keep the length of the slice that they fill
  pub border_lengths : (bs cs out : List ℕ) (k : ℕ) → (length (read_border bs out).1 ≡ length out) × (length (write_border k cs out).1 ≡ length out)
  -- so two different byte strings never read as one border
  pub one_border : (bs bs' out out' : List ℕ) (k n : ℕ) → Bytes bs → Bytes bs' →
      (read_border bs out).0 ≡ given (k, n) → (read_border bs' out').0 ≡ given (k, n) → take n (read_border bs out).1 ≡ take n (read_border bs' out').1 →
      bs ≡ bs'
  -- a border of one cell has no codes: its bytes are level, cell and 0
  pub one_cell : (k m : ℕ) → border_bytes k (m ∷ []) ≡ numeral k ++ (numeral m ++ (0 ∷ []))
  -- a border has at most 1,544 bytes
  pub border_length : (k : ℕ) (cs out : List ℕ) (n : ℕ) → (write_border k cs out).0 ≡ given n → n ≤ 1544
