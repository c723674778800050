-- Positions and cells (docs/RULES.md, 2).
-- Latitudes and longitudes are whole millionths of a degree. At level k, N is 2 ^ k.
use Rattle.std.specs.Prelude.{ℕ, ◌+◌, ◌*◌, ◌-◌, ◌/◌, ◌%◌, ◌^◌, ◌≤◌, ◌<◌, Bool, cond, List, [], ◌∷◌, leb, ltb, eqb, ℤ, pos, negsuc, nat_abs, neg_ℤ, ◌+ℤ◌, get_or}
use Rattle.refusal.specs.Answer.{Answer, Test, ◌when◌, in_order}
use Rattle.refusal.specs.Tests.{bad_level}
use Rattle.cell.specs.Cell.{Triangle, up, down, Place, number, max_level}

-- a quarter of a turn
abbrev pub q : ℕ
q = 90000000

-- the ranges: from pole to pole, and once around, with −2q for the meridian at which both ends meet
abbrev pub latitude_out : ℤ → Bool
latitude_out y = ltb q (nat_abs y)

abbrev pub longitude_out : ℤ → Bool
longitude_out (pos x) = leb (2 * q) x
longitude_out (negsuc x) = leb (2 * q) x

-- the longitudes at which the northern octants begin; 4 to 7 lie south of them
abbrev pub beginnings : List ℤ
beginnings = pos 0 ∷ pos q ∷ neg_ℤ (pos (2 * q)) ∷ neg_ℤ (pos q) ∷ []

unfoldable pub beginning : ℕ → ℤ
beginning o = get_or beginnings (o % 4) (pos 0)

-- a longitude in range, counted east from −2q
unfoldable pub from_west : ℤ → ℕ
from_west x = nat_abs (x +ℤ pos (2 * q))

-- the northern octant of a longitude, and the longitude less its beginning, which is m
unfoldable pub north_octant : ℤ → ℕ
north_octant x = (from_west x / q + 2) % 4

unfoldable pub offset : ℤ → ℕ
offset x = from_west x % q

-- negative latitude adds 4
unfoldable pub octant : ℤ → ℤ → ℕ
octant (pos y) x = north_octant x
octant (negsuc y) x = north_octant x + 4

-- T and R, each times q²: T = N·p/q and R = N·m·(q−p)/q²
unfoldable pub scaled_t : ℕ → ℕ → ℕ
scaled_t k p = 2 ^ k * p * q

unfoldable pub scaled_r : ℕ → ℕ → ℕ → ℕ
scaled_r k p m = 2 ^ k * m * (q - p)

-- what a triangle of level k holds of its octant; both sides of each inequality times q²
unfoldable pub Holds : ℕ → ℕ → ℕ → Triangle → Type 0
Holds k p m (up a b) =
    (a * (q * q) ≤ scaled_t k p) × (b * (q * q) ≤ scaled_r k p m) × (scaled_t k p + scaled_r k p m < (a + b + 1) * (q * q))
Holds k p m (down a b) =
    (scaled_t k p < (a + 1) * (q * q)) × (scaled_r k p m < (b + 1) * (q * q)) × ((a + b + 1) * (q * q) ≤ scaled_t k p + scaled_r k p m)

-- the triangle that holds a position below the pole: the whole parts of T and R are row and column, and what is left over of both tells up from down
unfoldable pub holder : ℕ → ℕ → ℕ → Triangle
holder k p m =
    let a = scaled_t k p / (q * q) in
    let b = scaled_r k p m / (q * q) in
    cond (ltb (scaled_t k p % (q * q) + scaled_r k p m % (q * q)) (q * q)) (up a b) (down a b)

-- at a pole it is the octant's cell there, up(N−1,0)
unfoldable pub triangle_at : ℕ → ℕ → ℕ → Triangle
triangle_at k p m = cond (eqb p q) (up (2 ^ k - 1) 0) (holder k p m)

-- the place of the cell at latitude y and longitude x
unfoldable pub place_at : ℕ → ℤ → ℤ → Place
place_at k y x = (octant y x, triangle_at k (nat_abs y) (offset x))

-- 2: the latitude is outside its range; 3: the longitude is
abbrev pub bad_latitude : ℤ → Test
bad_latitude y = 2 when latitude_out y

abbrev pub bad_longitude : ℤ → Test
bad_longitude x = 3 when longitude_out x

-- cell at a position: refused 1, 2, 3
abbrev pub cell_call : ℕ → ℤ → ℤ → Answer ℕ
cell_call k y x = in_order (bad_level max_level k ∷ bad_latitude y ∷ bad_longitude x ∷ []) (number k (place_at k y x))
