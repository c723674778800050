-- The words of src/lib.rt: their bits are those that seats and quarters ask for, computed once for all 64. Assumes nothing.
use Prim.Native.Nat.{ℕ, zero, suc, ◌+◌, ◌*◌, ◌/◌, ◌%◌, ◌^◌, ◌<◌}
use mathlib.Core.Path.{◌≡◌, refl, sym, ap, ap₂, ◌∙◌}
use mathlib.Core.Bool.{Bool, true, false, ◌&&◌, ◌||◌}
use mathlib.Core.List.{[], ◌∷◌}
use native.Mathlib.Nat.{mod-eq_of_lt}
use native.Mathlib.Omega.{arith}
use borrow.Author.Tests.{ltb-true, eqb-true}
use lib.Dec.{ltb, eqb}
use Rattle.refusal.proofs.Tests.{parts, clash}
use Rattle.bitset.specs.Bits.{bit}
use Rattle.cell.specs.declared.Kind.{Kind}
use Rattle.cell.specs.declared.Kind.TheVariants.{Up, Down}
use Rattle.cell.specs.Cell.{Triangle, up, down, row, col, child, children, triangle_of}
use Rattle.walk.specs.Reach.{all_below}
use Rattle.walk.proofs.Reach.{all_at}
use Rattle.square.specs.Square.{quarter_of, seat, kind_of, squares, seat_bit, Scattered, Gathered}
use Rattle.square.specs.inside.Words.{Word, input, kept, raised, lowered, joined, value, by4, by8, by16, by32, exchanged, block_up, block_down, up_from, down_from, up_four, down_four}
use Rattle.square.proofs.Moves.{value_bit, sources, input_bit}
use Rattle.square.proofs.Moves.{same_list, one_source, two_sources, at_most_one, at_most_one_lem}

-- ---- rows and quarters

pub quarter_below : (p : ℕ) → quarter_of p < 64
unfolding quarter_of
quarter_below p = omega arith

-- one word of one input, whose bit p has the one source q
one_bit : (x : ℕ) → x < 2 ^ 64 → (w : Word) (p q : ℕ) → q < 64 → same_list (sources w p) (q ∷ []) ≡ true → bit (value (λ n. x) w) p ≡ bit x q
unfolding input_bit
one_bit x h w p q l e = value_bit (λ n. x) (λ n. h) w p ∙ one_source (input_bit (λ n. x)) (sources w p) q e ∙ ap (bit x) (mod-eq_of_lt l)

abbrev by_eights : Word → Word
by_eights w = exchanged 8 (by32 65280) w

abbrev by_twos : Word → Word
by_twos w = exchanged 2 (by8 12) w

abbrev by_fours : Word → Word
by_fours w = exchanged 4 (by16 240) w

abbrev rows_word : Word
rows_word = by_fours (by_twos (by_eights (input 0)))

abbrev quarters_word : Word
quarters_word = by_eights (by_twos (by_fours (input 0)))

rows_computed : all_below 64 (λ p. same_list (sources rows_word p) (quarter_of p ∷ [])) ≡ true
unfolding all_below same_list sources quarter_of bit
rows_computed = refl

quarters_computed : all_below 64 (λ p. same_list (sources quarters_word (quarter_of p)) (p ∷ [])) ≡ true
unfolding all_below same_list sources quarter_of bit
quarters_computed = refl

pub rows_bits : (x : ℕ) → x < 2 ^ 64 → (p : ℕ) → p < 64 → bit (value (λ n. x) rows_word) p ≡ bit x (quarter_of p)
rows_bits x h p l = one_bit x h rows_word p (quarter_of p) (quarter_below p) (all_at 64 (λ p. same_list (sources rows_word p) (quarter_of p ∷ [])) rows_computed p l)

pub quarters_bits : (x : ℕ) → x < 2 ^ 64 → (p : ℕ) → p < 64 → bit (value (λ n. x) quarters_word) (quarter_of p) ≡ bit x p
quarters_bits x h p l = one_bit x h quarters_word (quarter_of p) p l (all_at 64 (λ p. same_list (sources quarters_word (quarter_of p)) (p ∷ [])) quarters_computed p l)

-- ---- a block's cells

-- two triangles are the same
unfoldable same_triangle : Triangle → Triangle → Bool
same_triangle (up a b) (up c d) = eqb a c && eqb b d
same_triangle (up a b) (down c d) = false
same_triangle (down a b) (up c d) = false
same_triangle (down a b) (down c d) = eqb a c && eqb b d

same_triangle_lem : (f g : Triangle) → same_triangle f g ≡ true → f ≡ g
unfolding same_triangle
same_triangle_lem (up a b) (up c d) e = let p = parts (eqb a c) (eqb b d) e in ap₂ up (eqb-true a c p.0) (eqb-true b d p.1)
same_triangle_lem (up a b) (down c d) e = clash e refl
same_triangle_lem (down a b) (up c d) e = clash e refl
same_triangle_lem (down a b) (down c d) e = let p = parts (eqb a c) (eqb b d) e in ap₂ down (eqb-true a c p.0) (eqb-true b d p.1)

-- where a seat's bit stands in quarters
abbrev seat_at : Kind → ℕ → ℕ
seat_at t j = quarter_of (8 * row (seat t j) + col (seat t j))

-- the cells of a kind in fours that are up cells, and in fours that are down cells
abbrev four_up : Kind → Word
four_up Up = joined (kept (lowered (input 0) 2) (by4 3)) (kept (raised (input 0) 1) (by4 4))
four_up Down = kept (input 0) (by4 1)

abbrev four_down : Kind → Word
four_down Up = kept (raised (input 0) 3) (by4 8)
four_down Down = kept (input 0) (by4 14)

abbrev scatter_word : Kind → Kind → Word
scatter_word Up s = block_up (four_up s) (four_down s)
scatter_word Down s = block_down (four_up s) (four_down s)

-- each seat has its cell for its one source, and each bit at most one, whose seat it is
abbrev at_test : Kind → ℕ → Bool
at_test t j = same_list (sources (scatter_word t (kind_of (seat t j))) (seat_at t j)) (j ∷ [])

abbrev only_test : Kind → Kind → ℕ → Bool
only_test t s p = at_most_one (λ j. ltb j 64 && same_triangle (seat t j) (triangle_of s (p / 8) (p % 8))) (sources (scatter_word t s) (quarter_of p))

at_computed : (t : Kind) → all_below 64 (at_test t) ≡ true
unfolding all_below same_list sources quarter_of bit seat kind_of row col child children
at_computed Up = refl
at_computed Down = refl

only_computed : (t s : Kind) → all_below 64 (only_test t s) ≡ true
unfolding all_below at_most_one same_triangle sources quarter_of bit seat kind_of row col child children
only_computed Up Up = refl
only_computed Up Down = refl
only_computed Down Up = refl
only_computed Down Down = refl

-- the four squares as the code makes them
abbrev pub scatter_squares : ℕ → Kind → Kind → ℕ
scatter_squares x =
    let e : ℕ → ℕ = λ n. x in
    squares (value e (scatter_word Up Up)) (value e (scatter_word Up Down)) (value e (scatter_word Down Up)) (value e (scatter_word Down Down))

scatter_is : (x : ℕ) (t s : Kind) → scatter_squares x t s ≡ value (λ n. x) (scatter_word t s)
unfolding squares
scatter_is x Up Up = refl
scatter_is x Up Down = refl
scatter_is x Down Up = refl
scatter_is x Down Down = refl

pub scatter_bits : (x : ℕ) → x < 2 ^ 64 → Scattered x (scatter_squares x)
unfolding seat_bit
scatter_bits x h = record {
  at = λ t j l.
      ap (λ (w : ℕ). bit w (seat_at t j)) (scatter_is x t (kind_of (seat t j)))
      ∙ one_bit x h (scatter_word t (kind_of (seat t j))) (seat_at t j) j l (all_at 64 (at_test t) (at_computed t) j l);
  only = λ t s p l e.
      let w = scatter_word t s in
      let g : ℕ → Bool = λ j. ltb j 64 && same_triangle (seat t j) (triangle_of s (p / 8) (p % 8)) in
      let f = input_bit (λ n. x) in
      let set = sym (value_bit (λ n. x) (λ n. h) w (quarter_of p)) ∙ ap (λ (w : ℕ). bit w (quarter_of p)) (sym (scatter_is x t s)) ∙ e in
      let o = at_most_one_lem f g (sources w (quarter_of p)) (all_at 64 (only_test t s) (only_computed t s) p l) set in
      let q = parts (ltb o.0 64) (same_triangle (seat t o.0) (triangle_of s (p / 8) (p % 8))) o.1 in
      (o.0, ltb-true o.0 64 q.0, same_triangle_lem (seat t o.0) (triangle_of s (p / 8) (p % 8)) q.1);
}

-- ---- and back

-- four words as inputs, and the input of each square
abbrev four : ℕ → ℕ → ℕ → ℕ → ℕ → ℕ
four a b c d zero = a
four a b c d (suc zero) = b
four a b c d (suc (suc zero)) = c
four a b c d (suc (suc (suc n))) = d

abbrev input_of : Kind → Kind → ℕ
input_of Up Up = 0
input_of Up Down = 1
input_of Down Up = 2
input_of Down Down = 3

four_is : (a b c d : ℕ) (t s : Kind) → four a b c d (input_of t s) ≡ squares a b c d t s
unfolding squares
four_is a b c d Up Up = refl
four_is a b c d Up Down = refl
four_is a b c d Down Up = refl
four_is a b c d Down Down = refl

four_below : (m a b c d : ℕ) → a < m → b < m → c < m → d < m → (n : ℕ) → four a b c d n < m
four_below m a b c d ha hb hc hd zero = ha
four_below m a b c d ha hb hc hd (suc zero) = hb
four_below m a b c d ha hb hc hd (suc (suc zero)) = hc
four_below m a b c d ha hb hc hd (suc (suc (suc n))) = hd

abbrev up_fours : Kind → Word
up_fours s = up_four (input (input_of Up s)) (input (input_of Down s))

abbrev down_fours : Kind → Word
down_fours s = down_four (input (input_of Up s)) (input (input_of Down s))

abbrev gather_word : Word
gather_word = joined (up_from 2 1 3 (by4 12) (by4 2) (by4 1) (up_fours Up) (down_fours Up)) (down_from (by4 1) (by4 14) (up_fours Down) (down_fours Down))

abbrev seat_source : Kind → ℕ → ℕ
seat_source t j = 64 * input_of t (kind_of (seat t j)) + seat_at t j

abbrev gather_test : ℕ → Bool
gather_test j = same_list (sources gather_word j) (seat_source Up j ∷ seat_source Down j ∷ []) || same_list (sources gather_word j) (seat_source Down j ∷ seat_source Up j ∷ [])

gather_computed : all_below 64 gather_test ≡ true
unfolding all_below same_list sources quarter_of bit seat kind_of row col child children
gather_computed = refl

seat_input : (a b c d : ℕ) (t : Kind) (j : ℕ) → input_bit (four a b c d) (seat_source t j) ≡ seat_bit (squares a b c d) t j
unfolding input_bit seat_bit
seat_input a b c d t j =
    let n = input_of t (kind_of (seat t j)) in
    let l = quarter_below (8 * row (seat t j) + col (seat t j)) in
    let q : seat_source t j / 64 ≡ n = omega arith in
    let r : seat_source t j % 64 ≡ seat_at t j = omega arith in
    ap₂ (λ (x y : ℕ). bit (four a b c d x) y) q r ∙ ap (λ (x : ℕ). bit x (seat_at t j)) (four_is a b c d t (kind_of (seat t j)))

pub gather_bits : (a b c d : ℕ) → a < 2 ^ 64 → b < 2 ^ 64 → c < 2 ^ 64 → d < 2 ^ 64 → Gathered (squares a b c d) (value (four a b c d) gather_word)
gather_bits a b c d ha hb hc hd j h =
    value_bit (four a b c d) (four_below (2 ^ 64) a b c d ha hb hc hd) gather_word j
    ∙ two_sources (input_bit (four a b c d)) (sources gather_word j) (seat_source Up j) (seat_source Down j) (all_at 64 gather_test gather_computed j h)
    ∙ ap₂ (λ (x y : Bool). x || y) (seat_input a b c d Up j) (seat_input a b c d Down j)
