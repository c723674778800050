-- Cells and points that meet within an octant, by their spots: a row on is 320 spots on, a column on is one.
use Rattle.std.specs.Prelude.{ℕ, ◌+◌, ◌*◌, ◌-◌, Bool, ◌&&◌, ◌||◌, leb, ltb}
use Rattle.rows.specs.Rows.{first_word, cells_end}

-- the points of cells: point (t,r) is a corner of up(t,r), up(t−1,r), up(t,r−1), down(t−1,r), down(t,r−1) and down(t−1,r−1)
unfoldable pub points_of : (ℕ → Bool) → (ℕ → Bool) → ℕ → Bool
points_of U D i = U i || (U (i - 320) || (U (i - 1) || (D (i - 320) || (D (i - 1) || D (i - 321)))))

-- the cells of points: up(a,b) has the corners (a,b), (a+1,b), (a,b+1), and down(a,b) has (a+1,b), (a,b+1), (a+1,b+1)
unfoldable pub up_of : (ℕ → Bool) → ℕ → Bool
up_of P i = P i || (P (i + 320) || P (i + 1))

unfoldable pub down_of : (ℕ → Bool) → ℕ → Bool
down_of P i = P (i + 320) || (P (i + 1) || P (i + 321))

-- a point and those that share a cell with it: (t,r), (t,r+1), (t,r−1), (t+1,r), (t+1,r−1), (t−1,r), (t−1,r+1)
unfoldable pub near_of : (ℕ → Bool) → ℕ → Bool
near_of P i = P i || (P (i + 1) || (P (i - 1) || (P (i + 320) || (P (i + 319) || (P (i - 320) || P (i - 319))))))

-- the word after the last in which a point lies
abbrev pub points_end : ℕ
points_end = 10325

-- the spots from the first row of octant 0 to the last of octant 7
abbrev pub in_rows : ℕ → Bool
in_rows i = leb (64 * first_word) i && ltb i (64 * points_end)

-- the same without the row after which no cell begins
abbrev pub in_cell_rows : ℕ → Bool
in_cell_rows i = leb (64 * first_word) i && ltb i (64 * cells_end)
