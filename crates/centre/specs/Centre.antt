-- Centres of cells (docs/RULES.md, 3).
-- Latitudes and longitudes are whole millionths of a degree. At level k, N is 2 ^ k.
use Rattle.std.specs.Prelude.{ℕ, ◌+◌, ◌*◌, ◌-◌, ◌/◌, ◌^◌, cond, ltb, ℤ, pos, neg_ℤ, ◌+ℤ◌}
use Rattle.refusal.specs.Answer.{Answer, in_order}
use Rattle.cell.specs.Cell.{Triangle, up, down, row, col, Place, place, cell_tests}
use Rattle.position.specs.Position.{q, beginning}
use Rattle.position.specs.declared.Latitude.{Latitude}
use Rattle.position.specs.declared.Longitude.{Longitude}

-- s: 1 for up and 2 for down
unfoldable pub thirds : Triangle → ℕ
thirds (up a b) = 1
thirds (down a b) = 2

-- p is the whole part of q(3a+s)/(3N)
unfoldable pub centre_p : ℕ → Triangle → ℕ
centre_p k f = q * (3 * row f + thirds f) / (3 * 2 ^ k)

-- m is the whole part of (3b+s)·q²/(3N(q−p))
unfoldable pub centre_m : ℕ → Triangle → ℕ
centre_m k f = (3 * col f + thirds f) * (q * q) / (3 * 2 ^ k * (q - centre_p k f))

-- the latitude of size p of an octant: p, in the south −p
abbrev pub latitude_of : ℕ → ℕ → ℤ
latitude_of o p = cond (ltb o 4) (pos p) (neg_ℤ (pos p))

-- a centre: p as its latitude, negative in the south, and m added to the longitude at which the octant begins
unfoldable pub centre : ℕ → Place → ℤ × ℤ
centre k c = (latitude_of c.0 (centre_p k c.1), beginning c.0 +ℤ pos (centre_m k c.1))

-- centre of a cell: refused 1, 4
abbrev pub centre_call : ℕ → ℕ → Answer (ℤ × ℤ)
centre_call k n = in_order (cell_tests k n) (centre k (place k n))

-- what the code's values stand for
abbrev pub position_of : Latitude × Longitude → ℤ × ℤ
position_of c = (c.0.0, c.1.0)
