-- Corners as points, and touching (docs/RULES.md, 5). At level k, N is 2 ^ k.
use Rattle.std.specs.Prelude.{ℕ, ◌+◌, ◌-◌, ◌%◌, ◌^◌, Bool, true, false, ◌&&◌, ◌||◌, not, cond, List, [], ◌∷◌, leb, eqb, ℤ, pos, negsuc, neg_ℤ, nat_abs, get_or}
use Rattle.refusal.specs.Answer.{Answer, in_order}
use Rattle.refusal.specs.Tests.{bad_level}
use Rattle.cell.specs.Cell.{Triangle, up, down, Place, place, max_level, bad_cell}
use Rattle.corner.specs.declared.Side.{Side}

-- ---- points

-- a point: three signed numbers
abbrev pub Point : Type 0
Point = List ℤ

-- number i of a point
abbrev pub coordinate : Point → ℕ → ℤ
coordinate x i = get_or x i (pos 0)

-- the sizes of its three numbers, together
unfoldable pub norm : Point → ℕ
norm x = nat_abs (coordinate x 0) + nat_abs (coordinate x 1) + nat_abs (coordinate x 2)

abbrev pub minus : ℕ → ℤ
minus n = neg_ℤ (pos n)

-- the first two numbers in the octants 0, 1, 2, 3, by what makes a number and a negative one: (L,R), (−R,L), (−L,−R), (R,−L)
abbrev pub quarters : {A : Type 0} → (ℕ → A) → (ℕ → A) → ℕ → ℕ → List (A × A)
quarters plus minus l r = (plus l, plus r) ∷ (minus r, plus l) ∷ (minus l, minus r) ∷ (plus r, minus l) ∷ []

-- those of octant o: in the south as in the north
unfoldable pub equatorial : {A : Type 0} → (ℕ → A) → (ℕ → A) → ℕ → ℕ → ℕ → A × A
equatorial plus minus o l r = get_or (quarters plus minus l r) (o % 4) (plus l, plus r)

-- a number by its side of zero: whether it is negative, and its size
abbrev pub side_of : Bool → ℕ → Side
side_of n b = record { negative = n; base = b }

-- the first of the two so
abbrev pub first_of : ℕ → ℕ → ℕ → Side
first_of o l r = (equatorial (side_of false) (side_of true) o l r).0

-- the third number: T, and in the south −T
unfoldable pub polar : ℕ → ℕ → ℤ
polar o t = cond (leb 4 o) (minus t) (pos t)

-- the point with L, R, T in octant o
unfoldable pub point_in : ℕ → ℕ → ℕ → ℕ → Point
point_in o l r t = (equatorial pos minus o l r).0 ∷ (equatorial pos minus o l r).1 ∷ polar o t ∷ []

-- ---- corners

-- the corner with T and R in octant o at level k; L = N − T − R
unfoldable pub corner : ℕ → ℕ → ℕ → ℕ → Point
corner k o t r = point_in o (2 ^ k - t - r) r t

-- the three corners of a cell
unfoldable pub triangle_corners : ℕ → ℕ → Triangle → List Point
triangle_corners k o (up a b) = corner k o a b ∷ corner k o (a + 1) b ∷ corner k o a (b + 1) ∷ []
triangle_corners k o (down a b) = corner k o (a + 1) b ∷ corner k o a (b + 1) ∷ corner k o (a + 1) (b + 1) ∷ []

abbrev pub corners : ℕ → Place → List Point
corners k p = triangle_corners k p.0 p.1

-- ---- touching

-- two signed numbers are the same, two points are, a point is among three, three points and three others have one in common
unfoldable pub same_number : ℤ → ℤ → Bool
same_number (pos a) (pos b) = eqb a b
same_number (pos a) (negsuc b) = false
same_number (negsuc a) (pos b) = false
same_number (negsuc a) (negsuc b) = eqb a b

unfoldable pub same_point : Point → Point → Bool
same_point x y = same_number (coordinate x 0) (coordinate y 0) && same_number (coordinate x 1) (coordinate y 1) && same_number (coordinate x 2) (coordinate y 2)

unfoldable pub among : Point → List Point → Bool
among x ys = same_point x (get_or ys 0 []) || same_point x (get_or ys 1 []) || same_point x (get_or ys 2 [])

unfoldable pub common : List Point → List Point → Bool
common xs ys = among (get_or xs 0 []) ys || among (get_or xs 1 []) ys || among (get_or xs 2 []) ys

-- cells touch where they share a point and are not one cell
unfoldable pub touches : ℕ → ℕ → ℕ → Bool
touches k m n = not (eqb m n) && common (corners k (place k m)) (corners k (place k n))

-- whether two cells touch: refused 1, 4
abbrev pub touch_call : ℕ → ℕ → ℕ → Answer Bool
touch_call k m n = in_order (bad_level max_level k ∷ bad_cell k m ∷ bad_cell k n ∷ []) (touches k m n)
