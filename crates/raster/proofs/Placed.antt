-- A block's cells in the rows: each lies in the block's square, at its seat. Assumes nothing.
use Prim.Native.Nat.{ℕ, suc, ◌+◌, ◌*◌, ◌/◌, ◌%◌, ◌^◌, ◌≤◌, ◌<◌}
use mathlib.Core.Path.{◌≡◌, refl, sym, ap, ap₂, ◌∙◌}
use mathlib.Core.Bool.{Bool, true, false, ◌&&◌, ◌||◌}
use mathlib.Core.List.{List}
use native.Mathlib.Nat.{pow-suc}
use native.Mathlib.Omega.{arith}
use borrow.Author.Tests.{eq-eqb, eqb-true}
use lib.Bits.{bit_or}
use lib.Dec.{eqb}
use lib.Pow.{pow_mono}
use Rattle.refusal.proofs.Tests.{clash, same_test, both, parts}
use Rattle.bitset.specs.Bits.{bit}
use Rattle.bitset.proofs.Laws.{bit_zero, bit_or_lem}
use Rattle.cell.specs.declared.Kind.{Kind}
use Rattle.cell.specs.declared.Kind.TheVariants.{Up, Down}
use Rattle.cell.specs.Cell.{Triangle, row, col, child, triangle_of, Place, place, cells}
use Rattle.cell.proofs.Laws.{child_number, triangle_bounds}
use Rattle.cell.proofs.Answers.{Given}
use Rattle.walk.proofs.Reach.{any_in, any_out}
use Rattle.rows.specs.Rows.{lit, octant_rows, spot, octant_at, row_at, col_at}
use Rattle.raster.specs.Raster.{cell_at, triangle_lit, cell_lit}
use Rattle.raster.specs.inside.Pieces.{piece, Added}
use Rattle.square.specs.Square.{quarter_of, seat, kind_of, seat_bit, Scattered}
use Rattle.square.proofs.Places.{moved, moved_triangle, seat_moved, seat_small, seat_triangle}
use Rattle.raster.specs.inside.Squares.{in_square}
use Rattle.raster.proofs.Held.{at_cell, found, triangle_same, kind_same}

-- what holds of up and of down
pub kind_cases : (P : Kind → Type 0) → P Up → P Down → (s : Kind) → P s
kind_cases P x y Up = x
kind_cases P x y Down = y

-- the rows of a kind
abbrev pub rows_of : List ℕ → List ℕ → Kind → List ℕ
rows_of u d Up = u
rows_of u d Down = d

-- the square of a kind
abbrev pub square_of : ℕ → ℕ → Kind → ℕ
square_of x y Up = x
square_of x y Down = y

pub triangle_lit_lem : (u d : List ℕ) (o : ℕ) (s : Kind) (a b : ℕ) → triangle_lit u d o (triangle_of s a b) ≡ lit (rows_of u d s) (spot o a b)
unfolding triangle_lit
triangle_lit_lem u d o Up a b = refl
triangle_lit_lem u d o Down a b = refl

-- ---- a block

module _ (k m B o : ℕ) (t : Kind) (a b : ℕ) (h : k ≤ 8) (e : k ≡ suc (suc (suc m))) (g : Given m B (o, triangle_of t a b)) where
  -- where cell j of the block lies
  pub block_place : (j : ℕ) → j < 64 → place k (64 * B + j) ≡ (o, moved (seat t j) (8 * a) (8 * b))
  block_place j l =
      let c₁ = 4 * B + j / 16 in
      let c₂ = 4 * c₁ + j / 4 % 4 in
      let n : 64 * B + j ≡ 4 * c₂ + j % 4 = omega arith in
      let p₁ : place (suc m) c₁ ≡ (o, child (triangle_of t a b) (j / 16)) =
      child_number m B (j / 16) (omega arith) ∙ ap (λ (q : Place). (q.0, child q.1 (j / 16))) g.at in
      let p₂ : place (suc (suc m)) c₂ ≡ (o, child (child (triangle_of t a b) (j / 16)) (j / 4 % 4)) =
      child_number (suc m) c₁ (j / 4 % 4) (omega arith) ∙ ap (λ (q : Place). (q.0, child q.1 (j / 4 % 4))) p₁ in
      ap₂ place e n
      ∙ child_number (suc (suc m)) c₂ (j % 4) (omega arith) ∙ ap (λ (q : Place). (q.0, child q.1 (j % 4))) p₂
      ∙ ap (λ (f : Triangle). (o, f)) (seat_moved t a b j l)

  pub block_below : (j : ℕ) → j < 64 → 64 * B + j < cells k
  block_below j l =
      let p : 4 ^ k ≡ 64 * 4 ^ m = ap (λ (n : ℕ). 4 ^ n) e ∙ omega (arith, pow-suc 4 (suc (suc m)), pow-suc 4 (suc m), pow-suc 4 m) in
      omega (arith, g.below)

  -- the block is in the first 32 rows and columns of blocks
  pub block_small : (o < 8) × (a < 32) × (b < 32)
  block_small =
      let p : 2 ^ m ≤ 2 ^ 5 = pow_mono {i = m} {j = 5} (omega arith) in
      let w = triangle_bounds t a b (2 ^ m) g.occurs.1 in
      (g.occurs.0, omega arith, omega arith)

  module _ (slot : ℕ) (es : slot ≡ (octant_rows * o + 8 * a + 2) * 40 + b) where
    -- a square's bits are the block's cells of a kind
    pub square_is : (v : ℕ) (sq : Kind → Kind → ℕ) → Scattered v sq → (s : Kind) (r : ℕ) → ((p : ℕ) → p < 64 → bit r p ≡ bit (sq t s) (quarter_of p)) →
        (i : ℕ) → in_square 8 slot r i ≡ cell_at (triangle_of s) k (piece 64 B (λ c. bit v (c % 64))) i
    unfolding in_square piece seat_bit
    square_is v sq w s r f i = same_test (in_square 8 slot r i) (cell_at (triangle_of s) k A i) there back
      where
        A : ℕ → Bool
        A c = eqb (c / 64) B && bit v (c % 64)

        P : ℕ → Bool
        P x = eqb (i / 8) (slot + 40 * x) && bit r (8 * x + i % 8)

        -- the bit of a cell's seat
        seated : (j x y : ℕ) → j < 64 → x < 8 → y < 8 → kind_of (seat t j) ≡ s → row (seat t j) ≡ x → col (seat t j) ≡ y → bit r (8 * x + y) ≡ bit v j
        seated j x y l hx hy ek ex ey =
            f (8 * x + y) (omega arith)
            ∙ sym (ap₂ (λ (u : Kind) (p : ℕ). bit (sq t u) (quarter_of p)) ek (ap₂ (λ (c d : ℕ). 8 * c + d) ex ey))
            ∙ w.at t j l

        there : in_square 8 slot r i ≡ true → cell_at (triangle_of s) k A i ≡ true
        there q =
            let z = any_out 8 P q in
            let x = z.0 in
            let y = i % 8 in
            let c = parts (eqb (i / 8) (slot + 40 * x)) (bit r (8 * x + y)) z.2 in
            let ei = eqb-true (i / 8) (slot + 40 * x) c.0 in
            let hp : 8 * x + y < 64 = omega (arith, z.1) in
            let u = w.only t s (8 * x + y) hp (sym (f (8 * x + y) hp) ∙ c.1) in
            let j = u.0 in
            let qx : (8 * x + y) / 8 ≡ x = omega arith in
            let qy : (8 * x + y) % 8 ≡ y = omega arith in
            let sf : seat t j ≡ triangle_of s x y = u.2 ∙ ap₂ (triangle_of s) qx qy in
            let d = seat_triangle t s j x y sf in
            let at : place k (64 * B + j) ≡ (o, triangle_of s (8 * a + x) (8 * b + y)) =
            block_place j u.1 ∙ ap (λ (f : Triangle). (o, moved f (8 * a) (8 * b))) sf ∙ ap (λ (f : Triangle). (o, f)) (moved_triangle s x y (8 * a) (8 * b)) in
            let here : spot o (8 * a + x) (8 * b + y) ≡ i = omega arith in
            let nb : (64 * B + j) / 64 ≡ B = omega (arith, u.1) in
            let nj : (64 * B + j) % 64 ≡ j = omega (arith, u.1) in
            let in-it : A (64 * B + j) ≡ true = both (eqb ((64 * B + j) / 64) B) (bit v ((64 * B + j) % 64)) (eq-eqb _ _ nb)
            (ap (bit v) nj ∙ sym (seated j x y u.1 z.1 (omega arith) d.0 d.1 d.2) ∙ c.1) in
            ap (cell_at (triangle_of s) k A) (sym here) ∙ at_cell k s A (64 * B + j) o (8 * a + x) (8 * b + y) h (block_below j u.1) at ∙ in-it

        back : cell_at (triangle_of s) k A i ≡ true → in_square 8 slot r i ≡ true
        back q =
            let z = found k s A i q in
            let c = parts (eqb (z.cell / 64) B) (bit v (z.cell % 64)) z.member in
            let j = z.cell % 64 in
            let l : j < 64 = omega arith in
            let n : 64 * B + j ≡ z.cell = omega (arith, eqb-true (z.cell / 64) B c.0) in
            let x = row (seat t j) in
            let y = col (seat t j) in
            let d = seat_small t j l in
            let p : ◌≡◌ {A = Place} (o, moved (seat t j) (8 * a) (8 * b)) (octant_at i, triangle_of s (row_at i) (col_at i)) = sym (block_place j l) ∙ ap (place k) n ∙ z.at in
            let eo : o ≡ octant_at i = ap (λ (r : Place). r.0) p in
            let f = triangle_same s (kind_of (seat t j)) (8 * a + x) (8 * b + y) (row_at i) (col_at i) (ap (λ (r : Place). r.1) p) in
            let here : i ≡ spot o (8 * a + x) (8 * b + y) = omega (arith, z.again, f.1, f.2) in
            let ei : i / 8 ≡ slot + 40 * x = omega arith in
            let ey : i % 8 ≡ y = omega arith in
            any_in 8 P x d.0 (both (eqb (i / 8) (slot + 40 * x)) (bit r (8 * x + i % 8)) (eq-eqb (i / 8) (slot + 40 * x) ei)
            (ap (λ (u : ℕ). bit r (8 * x + u)) ey ∙ seated j x y l d.0 d.1 (sym (kind_same s (kind_of (seat t j)) f.0)) refl refl ∙ c.1))

    -- so what is joined of it is added
    pub square_added : (v : ℕ) (sq : Kind → Kind → ℕ) → Scattered v sq → (s : Kind) (r : ℕ) → ((p : ℕ) → p < 64 → bit r p ≡ bit (sq t s) (quarter_of p)) →
        (q z : List ℕ) → ((i : ℕ) → lit z i ≡ (lit q i || in_square 8 slot r i)) → Added (triangle_of s) k (piece 64 B (λ c. bit v (c % 64))) q z
    square_added v sq w s r f q z d i = d i ∙ ap (λ (x : Bool). lit q i || x) (square_is v sq w s r f i)

    -- a cell's seat read in the rows of its kind, from squares x and y of the two
    pub seat_read : (u d : List ℕ) (x y : ℕ) →
        ((p : ℕ) → p < 64 → bit x p ≡ lit u (8 * (slot + 40 * (p / 8)) + p % 8)) → ((p : ℕ) → p < 64 → bit y p ≡ lit d (8 * (slot + 40 * (p / 8)) + p % 8)) →
        (sq : Kind → Kind → ℕ) → ((s : Kind) (p : ℕ) → p < 64 → bit (sq t s) (quarter_of p) ≡ bit (square_of x y s) p) →
        (j : ℕ) → j < 64 → seat_bit sq t j ≡ cell_lit k u d (64 * B + j)
    unfolding seat_bit cell_lit
    seat_read u d x y f g sq q j l =
        let s = kind_of (seat t j) in
        let r = row (seat t j) in
        let c = col (seat t j) in
        let w = seat_small t j l in
        let read = kind_cases (λ (s : Kind). (p : ℕ) → p < 64 → bit (square_of x y s) p ≡ lit (rows_of u d s) (8 * (slot + 40 * (p / 8)) + p % 8)) f g in
        let here : 8 * (slot + 40 * ((8 * r + c) / 8)) + (8 * r + c) % 8 ≡ spot o (8 * a + r) (8 * b + c) = omega arith in
        let h : 8 * r + c < 64 = omega arith in
        q s (8 * r + c) h ∙ read s (8 * r + c) h ∙ ap (lit (rows_of u d s)) here
        ∙ sym (ap (λ (p : Place). triangle_lit u d p.0 p.1) (block_place j l) ∙ triangle_lit_lem u d o s (8 * a + r) (8 * b + c))

-- two squares in which nothing is set
pub both_empty : (x y : ℕ) → bit_or x y ≡ 0 → (s : Kind) (p : ℕ) → p < 64 → bit 0 (quarter_of p) ≡ bit (square_of x y s) p
both_empty x y e = kind_cases _ (λ p h. bit_zero (quarter_of p) ∙ sym (none p).0) (λ p h. bit_zero (quarter_of p) ∙ sym (none p).1)
  where
    apart : (a b : Bool) → (a || b) ≡ false → (a ≡ false) × (b ≡ false)
    apart true b e = clash refl e
    apart false b e = (refl, e)

    none : (p : ℕ) → (bit x p ≡ false) × (bit y p ≡ false)
    none p = apart (bit x p) (bit y p) (sym (bit_or_lem x y p) ∙ ap (λ (n : ℕ). bit n p) e ∙ bit_zero p)
