-- Cells reached in rows of bits, from spot to spot. Filling works so; no contract of `fill` and no demand
-- cites this file.
-- Up cells stand in one set of rows and down cells in another, each at the spot of its octant, row and column.
use Rattle.std.specs.Prelude.{ℕ, ◌+◌, ◌-◌, ◌/◌, ◌^◌, ◌≤◌, ◌<◌, ◌≡◌, Bool, true, List, ◌⊎◌}
use Rattle.cell.specs.declared.Kind.{Kind}
use Rattle.cell.specs.declared.Kind.TheVariants.{Up, Down}
use Rattle.mask.specs.Mask.{max_mask_level}
use Rattle.rows.specs.Rows.{lit, first_word, cells_end, row_spots, spot}
use Rattle.code.specs.Step.{across, east}

-- whether a spot is set, in the rows of up cells or in those of down cells
abbrev pub lit_of : List ℕ → List ℕ → Kind → ℕ → Bool
lit_of u d Up i = lit u i
lit_of u d Down i = lit d i

-- ---- steps between spots

-- steps inside an octant: an up cell's neighbours are the down cells at its spot, one place back and one row back
pub data Beside : Kind → ℕ → Kind → ℕ → Type 0 where
  down_here : {i j : ℕ} → i ≡ j → Beside Up i Down j
  down_back : {i j : ℕ} → i ≡ j + 1 → Beside Up i Down j
  down_last : {i j : ℕ} → i ≡ j + row_spots → Beside Up i Down j
  up_here : {i j : ℕ} → j ≡ i → Beside Down i Up j
  up_on : {i j : ℕ} → j ≡ i + 1 → Beside Down i Up j
  up_next : {i j : ℕ} → j ≡ i + row_spots → Beside Down i Up j

-- those of them that lead into the words before word w, the first two rows left out
abbrev pub Within : ℕ → Kind → ℕ → Kind → ℕ → Type 0
Within w s i t j = Beside s i t j × (first_word ≤ j / 64) × (j / 64 < w)

-- steps over an edge: from one of two spots of up cells to the other
abbrev pub Pair : ℕ → ℕ → Kind → ℕ → Kind → ℕ → Type 0
Pair p q s i t j = (s ≡ Up) × (t ≡ Up) × (((i ≡ p) × (j ≡ q)) ⊎ ((i ≡ q) × (j ≡ p)))

-- the edge to the east, in row n, and the equator, in column n
abbrev pub Edges : ℕ → ℕ → ℕ → Kind → ℕ → Kind → ℕ → Type 0
Edges k o n s i t j =
    Pair (spot o n (2 ^ k - 1 - n)) (spot (east o) n 0) s i t j
    ⊎ Pair (spot o 0 n) (spot (across o) 0 n) s i t j

-- those of an octant in the rows and columns below m, and those of all octants below m
abbrev pub EdgesOf : ℕ → ℕ → ℕ → Kind → ℕ → Kind → ℕ → Type 0
EdgesOf k o m s i t j = (n : ℕ) × (n < m) × Edges k o n s i t j

abbrev pub Over : ℕ → ℕ → Kind → ℕ → Kind → ℕ → Type 0
Over k m s i t j = (o : ℕ) × (o < m) × EdgesOf k o (2 ^ k) s i t j

-- all steps at level k: no cell lies past word `cells_end`
abbrev pub Near : ℕ → Kind → ℕ → Kind → ℕ → Type 0
Near k s i t j = Within cells_end s i t j ⊎ Over k 8 s i t j

-- ---- sets of spots

-- a set of spots holds every open spot that a step leads to from one of its own
abbrev pub Closed : (Kind → ℕ → Kind → ℕ → Type 0) → List ℕ → List ℕ → (Kind → ℕ → Bool) → Type 0
Closed S ou od P = (s t : Kind) (i j : ℕ) → S s i t j → P s i ≡ true → lit_of ou od t j ≡ true → P t j ≡ true

-- spots are only added, and none that is outside a closed set which holds all that were there before
pub record Added (S : Kind → ℕ → Kind → ℕ → Type 0) (ou od u₀ d₀ u d : List ℕ) : Type 0 where
  pub grows : (t : Kind) (i : ℕ) → lit_of u₀ d₀ t i ≡ true → lit_of u d t i ≡ true
  pub sound : (P : Kind → ℕ → Bool) → Closed S ou od P → ((t : Kind) (i : ℕ) → lit_of u₀ d₀ t i ≡ true → P t i ≡ true) →
      (t : Kind) (i : ℕ) → lit_of u d t i ≡ true → P t i ≡ true

-- the least closed set that holds what was there before, at a level to 8; at a level above nothing is written
pub record Flooded (k : ℕ) (ou od u₀ d₀ u d : List ℕ) : Type 0 where
  pub added : Added (Near k) ou od u₀ d₀ u d
  pub closed : k ≤ max_mask_level → Closed (Near k) ou od (lit_of u d)
  pub past : max_mask_level < k → (u ≡ u₀) × (d ≡ d₀)
