-- Points on the edges of octants stand in two octants, and at the six tips in four: their spots are joined, so that each has what one of them has.
use Rattle.std.specs.Prelude.{ℕ, Bool, ◌&&◌, cond}
use Rattle.corner.specs.Corner.{Point, corner, same_point}
use Rattle.walk.specs.Reach.{any_below}
use Rattle.rows.specs.Rows.{spot_count, octant_at, row_at, col_at, inside}

-- the point at a spot
unfoldable pub point_at : ℕ → ℕ → Point
point_at k i = corner k (octant_at i) (row_at i) (col_at i)

-- two spots of level k that are the same point
unfoldable pub same_spot : ℕ → ℕ → ℕ → Bool
same_spot k i j = inside k i && (inside k j && same_point (point_at k i) (point_at k j))

-- a spot of level k is set where a spot of the same point was; any other stays
unfoldable pub joined : ℕ → (ℕ → Bool) → ℕ → Bool
joined k P i = cond (inside k i) (any_below spot_count (λ j. same_spot k i j && P j)) (P i)
