-- Cells and their numbers (docs/RULES.md, 1). At level k, N is 2 ^ k.
use Rattle.std.specs.Prelude.{ℕ, zero, suc, ◌+◌, ◌*◌, ◌/◌, ◌%◌, ◌^◌, ◌≤◌, ◌<◌, ◌||◌, List, [], ◌∷◌, leb, ltb, get_or}
use Rattle.refusal.specs.Answer.{Answer, Test, ◌when◌, in_order}
use Rattle.refusal.specs.Tests.{bad_level}
use Rattle.cell.specs.declared.Kind.{Kind}
use Rattle.cell.specs.declared.Kind.TheVariants.{Up, Down}
use Rattle.cell.specs.declared.Place as declared

-- ---- triangles

-- where a cell lies in its octant: row a counts from the equator to the pole, column b from the west edge
pub data Triangle : Type 0 where
  up : ℕ → ℕ → Triangle
  down : ℕ → ℕ → Triangle

-- row and column of a triangle
unfoldable pub row : Triangle → ℕ
row (up a b) = a
row (down a b) = a

unfoldable pub col : Triangle → ℕ
col (up a b) = b
col (down a b) = b

-- the table of children: 0, 1, 2, 3
unfoldable pub children : Triangle → List Triangle
children (up a b) = down (2 * a) (2 * b) ∷ up (2 * a + 1) (2 * b) ∷ up (2 * a) (2 * b) ∷ up (2 * a) (2 * b + 1) ∷ []
children (down a b) =
    up (2 * a + 1) (2 * b + 1) ∷ down (2 * a) (2 * b + 1) ∷ down (2 * a + 1) (2 * b) ∷ down (2 * a + 1) (2 * b + 1) ∷ []

-- child d of a triangle, d a digit below 4
unfoldable pub child : Triangle → ℕ → Triangle
child f d = get_or (children f) d f

-- the triangle of the cell whose digits are the k lowest base-4 digits of n, the highest of them first
unfoldable pub triangle : ℕ → ℕ → Triangle
triangle zero n = up 0 0
triangle (suc k) n = child (triangle k (n / 4)) (n % 4)

-- the least N at which a triangle occurs: up(a,b) with a+b ≤ N−1, down(a,b) with a+b ≤ N−2
unfoldable pub span : Triangle → ℕ
span (up a b) = a + b + 1
span (down a b) = a + b + 2

-- ---- places

-- a cell's octant and its triangle there
abbrev pub Place : Type 0
Place = ℕ × Triangle

-- the place of cell number n at level k: the octant, and what the k digits lead to
unfoldable pub place : ℕ → ℕ → Place
place k n = (n / 4 ^ k, triangle k n)

-- the places that occur at level k
abbrev pub Occurs : ℕ → Place → Type 0
Occurs k p = (p.0 < 8) × (span p.1 ≤ 2 ^ k)

-- the table of children read backwards: parent and digit of a triangle, for the parities (0,0), (0,1), (1,0), (1,1) of row and column
unfoldable pub parents : Triangle → List (Triangle × ℕ)
parents (up a b) =
    (up (a / 2) (b / 2), 2) ∷ (up (a / 2) (b / 2), 3) ∷ (up (a / 2) (b / 2), 1) ∷ (down (a / 2) (b / 2), 0) ∷ []
parents (down a b) =
    (up (a / 2) (b / 2), 0) ∷ (down (a / 2) (b / 2), 1) ∷ (down (a / 2) (b / 2), 2) ∷ (down (a / 2) (b / 2), 3) ∷ []

-- the parities of row and column, as a number below 4
unfoldable pub parities : Triangle → ℕ
parities f = 2 * (row f % 2) + col f % 2

-- a triangle as a child: its parent, and which child of it the triangle is
unfoldable pub as_child : Triangle → Triangle × ℕ
as_child f = get_or (parents f) (parities f) (f, 0)

-- the k digits of a triangle of level k, read in base 4
unfoldable pub digits : ℕ → Triangle → ℕ
digits zero f = 0
digits (suc k) f = 4 * digits k (as_child f).0 + (as_child f).1

-- the number of a place at level k: octant × 4^k plus the digits
unfoldable pub number : ℕ → Place → ℕ
number k p = p.0 * 4 ^ k + digits k p.1

-- ---- the two calls

-- the highest level of cells
abbrev pub max_level : ℕ
max_level = 14

-- how many cells level k has: their numbers are those below
abbrev pub cells : ℕ → ℕ
cells k = 8 * 4 ^ k

-- what stands where there is no cell: in an unused place of a list, and in C as the answer that no cell lacks
abbrev pub no_cell : ℕ
no_cell = 4294967295

-- 4: the cell number is not below 8 × 4^k; or no cell of the level has that place
abbrev pub bad_cell : ℕ → ℕ → Test
bad_cell k n = 4 when leb (cells k) n

abbrev pub bad_place : ℕ → Place → Test
bad_place k p = 4 when (leb 8 p.0 || ltb (2 ^ k) (span p.1))

-- the tests of a call by level and cell number
abbrev pub cell_tests : ℕ → ℕ → List Test
cell_tests k n = bad_level max_level k ∷ bad_cell k n ∷ []

-- place of a number: refused 1, 4
abbrev pub place_call : ℕ → ℕ → Answer Place
place_call k n = in_order (cell_tests k n) (place k n)

-- number of a place: refused 1, 4
abbrev pub number_call : ℕ → Place → Answer ℕ
number_call k p = in_order (bad_level max_level k ∷ bad_place k p ∷ []) (number k p)

-- what the code's values stand for
abbrev pub triangle_of : Kind → ℕ → ℕ → Triangle
triangle_of Up a b = up a b
triangle_of Down a b = down a b

abbrev pub place_of : declared.Place → Place
place_of p = (p.octant, triangle_of p.kind p.row p.col)
