-- Seats: where they lie in a square, and how a block's square is moved to the block's place. Assumes nothing.
use Prim.Native.Nat.{ℕ, ◌+◌, ◌*◌, ◌/◌, ◌%◌, ◌<◌}
use mathlib.Core.Path.{◌≡◌, refl, ap, ap₂, ◌∙◌}
use mathlib.Core.Bool.{Bool, true, false, ◌&&◌, ◌||◌, or-false}
use native.Mathlib.Omega.{arith}
use borrow.Author.Tests.{ltb-true}
use lib.Dec.{ltb}
use Rattle.refusal.proofs.Tests.{parts}
use Rattle.bitset.specs.Bits.{bit}
use Rattle.bitset.proofs.Laws.{bit_zero}
use Rattle.cell.specs.declared.Kind.{Kind}
use Rattle.cell.specs.declared.Kind.TheVariants.{Up, Down}
use Rattle.cell.specs.Cell.{Triangle, up, down, row, col, child, children, triangle_of}
use Rattle.cell.proofs.Laws.{digit_cases}
use Rattle.walk.specs.Reach.{all_below}
use Rattle.walk.proofs.Reach.{all_at}
use Rattle.square.specs.Square.{quarter_of, seat, kind_of, squares, seat_bit}

-- ---- triangles moved

-- a triangle moved by rows and columns
abbrev pub moved : Triangle → ℕ → ℕ → Triangle
moved f a b = triangle_of (kind_of f) (a + row f) (b + col f)

-- its children are moved by twice as many
child_moved : (f : Triangle) (a b d : ℕ) → d < 4 → child (moved f a b) d ≡ moved (child f d) (2 * a) (2 * b)
unfolding child children row col kind_of
child_moved (up x y) a b = digit_cases _ (ap₂ down (omega arith) (omega arith)) (ap₂ up (omega arith) (omega arith)) (ap₂ up (omega arith) (omega arith)) (ap₂ up (omega arith) (omega arith))
child_moved (down x y) a b = digit_cases _ (ap₂ up (omega arith) (omega arith)) (ap₂ down (omega arith) (omega arith)) (ap₂ down (omega arith) (omega arith)) (ap₂ down (omega arith) (omega arith))

triangle_moved : (t : Kind) (a b : ℕ) → triangle_of t a b ≡ moved (triangle_of t 0 0) a b
unfolding row col kind_of
triangle_moved Up a b = ap₂ up (omega arith) (omega arith)
triangle_moved Down a b = ap₂ down (omega arith) (omega arith)

pub moved_triangle : (s : Kind) (x y a b : ℕ) → moved (triangle_of s x y) a b ≡ triangle_of s (a + x) (b + y)
unfolding row col kind_of
moved_triangle Up x y a b = refl
moved_triangle Down x y a b = refl

pub seat_moved : (t : Kind) (a b j : ℕ) → j < 64 → child (child (child (triangle_of t a b) (j / 16)) (j / 4 % 4)) (j % 4) ≡ moved (seat t j) (8 * a) (8 * b)
unfolding seat
seat_moved t a b j h =
    let f = triangle_of t 0 0 in
    let g = child f (j / 16) in
    let k = child g (j / 4 % 4) in
    ap (λ (x : Triangle). child (child (child x (j / 16)) (j / 4 % 4)) (j % 4)) (triangle_moved t a b)
    ∙ ap (λ (x : Triangle). child (child x (j / 4 % 4)) (j % 4)) (child_moved f a b (j / 16) (omega arith))
    ∙ ap (λ (x : Triangle). child x (j % 4)) (child_moved g (2 * a) (2 * b) (j / 4 % 4) (omega arith))
    ∙ child_moved k (2 * (2 * a)) (2 * (2 * b)) (j % 4) (omega arith)
    ∙ ap₂ (moved (child k (j % 4))) (omega arith) (omega arith)

-- seats are in the square
seats_computed : (t : Kind) → all_below 64 (λ j. ltb (row (seat t j)) 8 && ltb (col (seat t j)) 8) ≡ true
unfolding all_below seat row col child children
seats_computed Up = refl
seats_computed Down = refl

pub seat_small : (t : Kind) (j : ℕ) → j < 64 → (row (seat t j) < 8) × (col (seat t j) < 8)
seat_small t j h =
    let p = parts (ltb (row (seat t j)) 8) (ltb (col (seat t j)) 8) (all_at 64 (λ j. ltb (row (seat t j)) 8 && ltb (col (seat t j)) 8) (seats_computed t) j h) in
    (ltb-true (row (seat t j)) 8 p.0, ltb-true (col (seat t j)) 8 p.1)

pub seat_triangle : (t s : Kind) (j x y : ℕ) → seat t j ≡ triangle_of s x y → (kind_of (seat t j) ≡ s) × (row (seat t j) ≡ x) × (col (seat t j) ≡ y)
unfolding row col kind_of
seat_triangle t Up j x y e = (ap kind_of e, ap row e, ap col e)
seat_triangle t Down j x y e = (ap kind_of e, ap row e, ap col e)

-- ---- blocks of one kind

-- squares of an up block alone, and of a down block alone
pub gathered_up : (a b j : ℕ) → (seat_bit (squares a b 0 0) Up j || seat_bit (squares a b 0 0) Down j) ≡ seat_bit (squares a b 0 0) Up j
unfolding seat_bit squares
gathered_up a b j = ap (λ (x : Bool). seat_bit (squares a b 0 0) Up j || x) (go (kind_of (seat Down j))) ∙ or-false (seat_bit (squares a b 0 0) Up j)
  where
    go : (s : Kind) → bit (squares a b 0 0 Down s) (quarter_of (8 * row (seat Down j) + col (seat Down j))) ≡ false
    go Up = bit_zero (quarter_of (8 * row (seat Down j) + col (seat Down j)))
    go Down = bit_zero (quarter_of (8 * row (seat Down j) + col (seat Down j)))

pub gathered_down : (a b j : ℕ) → (seat_bit (squares 0 0 a b) Up j || seat_bit (squares 0 0 a b) Down j) ≡ seat_bit (squares 0 0 a b) Down j
unfolding seat_bit squares
gathered_down a b j = ap (λ (x : Bool). x || seat_bit (squares 0 0 a b) Down j) (go (kind_of (seat Up j)))
  where
    go : (s : Kind) → bit (squares 0 0 a b Up s) (quarter_of (8 * row (seat Up j) + col (seat Up j))) ≡ false
    go Up = bit_zero (quarter_of (8 * row (seat Up j) + col (seat Up j)))
    go Down = bit_zero (quarter_of (8 * row (seat Up j) + col (seat Up j)))
