-- Growing by points: what rows of points say of a set of cells. Two cells touch or are the same exactly where they share a point, so the cells at
-- most m + 1 touching steps from a set are those that have a point of a cell at most m steps from it. No public contract cites this file.
use Rattle.std.specs.Prelude.{ℕ, ◌+◌, ◌≤◌, ◌<◌, ◌^◌, ◌≡◌, Bool, true, ◌⊎◌}
use Rattle.cell.specs.Cell.{Triangle, up, down, place, cells}
use Rattle.corner.specs.Corner.{corners, among}
use Rattle.rows.specs.Rows.{spot, inside}
use Rattle.seam.specs.Seam.{point_at}

-- row t and column r are a corner of a triangle
abbrev pub HasCorner : Triangle → ℕ → ℕ → Type 0
HasCorner (up a b) t r = ((t ≡ a) × (r ≡ b)) ⊎ (((t ≡ a + 1) × (r ≡ b)) ⊎ ((t ≡ a) × (r ≡ b + 1)))
HasCorner (down a b) t r = ((t ≡ a + 1) × (r ≡ b)) ⊎ (((t ≡ a) × (r ≡ b + 1)) ⊎ ((t ≡ a + 1) × (r ≡ b + 1)))

-- a cell of a set, in octant o, with the corner (t,r)
abbrev pub CellWith : ℕ → (ℕ → Bool) → ℕ → ℕ → ℕ → Type 0
CellWith k A o t r = (c : ℕ) × (c < cells k) × (A c ≡ true) × ((place k c).0 ≡ o) × HasCorner (place k c).1 t r

-- a cell of a set that has the point at spot i
abbrev pub CellAt : ℕ → (ℕ → Bool) → ℕ → Type 0
CellAt k A i = (c : ℕ) × (c < cells k) × (A c ≡ true) × (among (point_at k i) (corners k (place k c)) ≡ true)

-- the spots of the corners of a set's cells, each in its cell's octant alone
pub record Corners (k : ℕ) (P A : ℕ → Bool) : Type 0 where
  pub only : (i : ℕ) → P i ≡ true → inside k i ≡ true
  pub out : (o t r : ℕ) → o < 8 → t + r ≤ 2 ^ k → P (spot o t r) ≡ true → CellWith k A o t r
  pub all : (o t r : ℕ) → CellWith k A o t r → P (spot o t r) ≡ true

-- the spots of the points of a set's cells, in every octant that has the point
pub record Points (k : ℕ) (P A : ℕ → Bool) : Type 0 where
  pub only : (i : ℕ) → P i ≡ true → inside k i ≡ true
  pub out : (i : ℕ) → P i ≡ true → CellAt k A i
  pub all : (i : ℕ) → inside k i ≡ true → CellAt k A i → P i ≡ true
