-- Pieces one after the other: what is set or marked after each of them. Assumes nothing.
use Prim.Native.Nat.{ℕ, suc, ◌+◌, ◌*◌, ◌-◌, ◌/◌, ◌%◌, ◌^◌, ◌≤◌, ◌<◌}
use mathlib.Core.Path.{◌≡◌, refl, sym, ap, ◌∙◌}
use mathlib.Core.Bool.{Bool, true, false, cond, ◌&&◌, ◌||◌, and-false, or-false, or_assoc}
use mathlib.Core.List.{List}
use native.Mathlib.Omega.{arith}
use native.Mathlib.Nat.{div-one, pow-suc}
use borrow.Author.Tests.{lt-ltb, le-ltb, eq-eqb, ne_eqb, ltb-true, ltb-false, eqb-true, eqb-false}
use lib.Dec.{ltb, eqb}
use Rattle.cell.specs.declared.Kind.{Kind}
use Rattle.cell.specs.Cell.{Triangle, triangle_of, number, cells}
use Rattle.bitset.specs.Bits.{bit, marked}
use Rattle.bitset.proofs.Laws.{bit_zero}
use Rattle.mask.proofs.Laws.{level_shifted}
use Rattle.rows.specs.Rows.{lit, octant_at, row_at, col_at}
use Rattle.raster.specs.Raster.{cell_at}
use Rattle.raster.specs.inside.Pieces.{piece, earlier, piece_size, piece_count, Added, Marked}
use Rattle.raster.proofs.Held.{none_at, at_cong, at_union}

-- ---- sizes

-- a piece of a level below 3 is a cell, and one of another level a block
pub small_size : (k : ℕ) → k < 3 → piece_size k ≡ 1
unfolding piece_size
small_size k h = rw (lt-ltb k 3 h)

pub small_count : (k : ℕ) → k < 3 → piece_count k ≡ cells k
unfolding piece_count
small_count k h = rw (lt-ltb k 3 h)

pub block_size : (k : ℕ) → 3 ≤ k → piece_size k ≡ 64
unfolding piece_size
block_size k h = rw (le-ltb k 3 h)

pub block_count : (k : ℕ) → 3 ≤ k → piece_count k ≡ cells (k - 3)
unfolding piece_count
block_count k h = rw (le-ltb k 3 h)

-- as the code shifts the count
pub count_small : (k : ℕ) → k < 3 → 8 * 2 ^ (2 * k) % 2 ^ 32 ≡ piece_count k
count_small k h = level_shifted 32 8 k (omega arith) (omega arith) ∙ sym (small_count k h)

pub count_blocks : (k : ℕ) → 3 ≤ k → k ≤ 8 → 8 * 2 ^ (2 * (k - 3)) % 2 ^ 32 ≡ piece_count k
count_blocks k h l = level_shifted 32 8 (k - 3) (omega arith) (omega arith) ∙ sym (block_count k h)

-- a level has 64 cells for each one three levels above
pub sixty_four : (k : ℕ) → 3 ≤ k → 4 ^ k ≡ 64 * 4 ^ (k - 3)
sixty_four k h =
    let m = k - 3 in
    let e : k ≡ suc (suc (suc m)) = omega arith in
    ap (λ (n : ℕ). 4 ^ n) e ∙ omega (arith, pow-suc 4 (suc (suc m)), pow-suc 4 (suc m), pow-suc 4 m)

piece_below : (k c : ℕ) → c < cells k → c / piece_size k < piece_count k
piece_below k c h = go (ltb k 3) refl
  where
    go : (b : Bool) → ltb k 3 ≡ b → c / piece_size k < piece_count k
    go true e = let l = ltb-true k 3 e in rw (small_size k l, small_count k l) (omega arith)
    go false e = let l = ltb-false k 3 e in rw (block_size k l, block_count k l) (omega (arith, sixty_four k l))

pub of_blocks : (k n : ℕ) (A : ℕ → Bool) (c : ℕ) → 3 ≤ k → piece 64 n A c ≡ piece (piece_size k) n A c
of_blocks k n A c h = ap (λ (z : ℕ). piece z n A c) (sym (block_size k h))

-- ---- sets

-- before the first piece there is none, and before the last end all are
pub earlier_none : (size : ℕ) (A : ℕ → Bool) (c : ℕ) → earlier size 0 A c ≡ false
unfolding earlier
earlier_none size A c = rw (le-ltb (c / size) 0 (omega arith))

pub earlier_all : (k n : ℕ) (A : ℕ → Bool) (c : ℕ) → n ≡ piece_count k → c < cells k → earlier (piece_size k) n A c ≡ A c
unfolding earlier
earlier_all k n A c e h = rw (lt-ltb (c / piece_size k) n (omega (arith, e, piece_below k c h)))

-- one piece more
pub more_test : (q n : ℕ) (a : Bool) → ((ltb q n && a) || (eqb q n && a)) ≡ (ltb q (n + 1) && a)
more_test q n a = go (ltb q n) (eqb q n) refl refl
  where
    go : (x y : Bool) → ltb q n ≡ x → eqb q n ≡ y → ((x && a) || (y && a)) ≡ (ltb q (n + 1) && a)
    go true true p r = let h = ltb-true q n p in rw (lt-ltb q (n + 1) (omega arith)) (same a)
      where
        same : (a : Bool) → (a || a) ≡ a
        same true = refl
        same false = refl
    go true false p r = let h = ltb-true q n p in rw (lt-ltb q (n + 1) (omega arith)) (or-false a)
    go false true p r = let h = eqb-true q n r in rw (lt-ltb q (n + 1) (omega arith))
    go false false p r =
        let h = ltb-false q n p in
        let l : n + 1 ≤ q = omega (arith, eqb-false q n r) in
        rw (le-ltb q (n + 1) l)

pub earlier_more : (size n : ℕ) (A : ℕ → Bool) (c : ℕ) → (earlier size n A c || piece size n A c) ≡ earlier size (n + 1) A c
unfolding earlier piece
earlier_more size n A c = more_test (c / size) n (A c)

-- ---- rows

-- nothing more is set
pub added_none : (t : Kind) (k : ℕ) (A : ℕ → Bool) (s : List ℕ) → ((c : ℕ) → c < cells k → A c ≡ false) → Added (triangle_of t) k A s s
added_none t k A s f i = sym (ap (λ (b : Bool). lit s i || b) (at_cong k t A (λ c. false) i f ∙ none_at k t i) ∙ or-false (lit s i))

pub added_same : (t : Kind) (k : ℕ) (A B : ℕ → Bool) (s r : List ℕ) → ((c : ℕ) → c < cells k → A c ≡ B c) → Added (triangle_of t) k A s r → Added (triangle_of t) k B s r
added_same t k A B s r f g i = g i ∙ ap (λ (b : Bool). lit s i || b) (at_cong k t A B i f)

-- one set after another
pub added_more : (t : Kind) (k size n : ℕ) (A : ℕ → Bool) (s r q : List ℕ) →
    Added (triangle_of t) k (earlier size n A) s r → Added (triangle_of t) k (piece size n A) r q → Added (triangle_of t) k (earlier size (n + 1) A) s q
added_more t k size n A s r q f g i =
    g i ∙ ap (λ (b : Bool). b || cell_at (triangle_of t) k (piece size n A) i) (f i)
    ∙ or_assoc (lit s i) (cell_at (triangle_of t) k (earlier size n A) i) (cell_at (triangle_of t) k (piece size n A) i)
    ∙ ap (λ (b : Bool). lit s i || b) (sym (at_union k t (earlier size n A) (piece size n A) i)
    ∙ at_cong k t (λ c. earlier size n A c || piece size n A c) (earlier size (n + 1) A) i (λ c h. earlier_more size n A c))

-- ---- masks

pub marked_more : (size n : ℕ) (A : ℕ → Bool) (s r : List ℕ) →
    ((c : ℕ) → marked s c ≡ earlier size n A c) → Marked (piece size n A) s r → (c : ℕ) → marked r c ≡ earlier size (n + 1) A c
marked_more size n A s r f g c = g c ∙ ap (λ (b : Bool). b || piece size n A c) (f c) ∙ earlier_more size n A c

-- the cells of a piece are not earlier
pub earlier_not : (size n : ℕ) (A : ℕ → Bool) (c : ℕ) → c / size ≡ n → earlier size n A c ≡ false
unfolding earlier
earlier_not size n A c e = rw (le-ltb (c / size) n (omega arith))

-- ---- pieces of one cell

pub one_cell : (n : ℕ) (A : ℕ → Bool) → A n ≡ true → (c : ℕ) → eqb n c ≡ piece 1 n A c
unfolding piece
one_cell n A e c = rw (div-one c) (go (eqb n c) refl)
  where
    go : (b : Bool) → eqb n c ≡ b → b ≡ (eqb c n && A c)
    go true p = let q = eqb-true n c p in sym (rw (eq-eqb c n (sym q), sym q) e)
    go false p = sym (rw (ne_eqb c n (λ (q : c ≡ n). eqb-false n c p (sym q))))

pub no_cell : (n : ℕ) (A : ℕ → Bool) → A n ≡ false → (c : ℕ) → piece 1 n A c ≡ false
unfolding piece
no_cell n A e c = rw (div-one c) (go (eqb c n) refl)
  where
    go : (b : Bool) → eqb c n ≡ b → (b && A c) ≡ false
    go true p = rw (eqb-true c n p) e
    go false p = refl

-- it adds nothing where the cell is not in the set
pub no_spot : (kind : ℕ → ℕ → Triangle) (k n : ℕ) (A : ℕ → Bool) (i : ℕ) → A n ≡ false → cell_at kind k (piece 1 n A) i ≡ false
unfolding cell_at
no_spot kind k n A i e = rw (no_cell n A e (number k (octant_at i, kind (row_at i) (col_at i)))) (and-false _)

-- ---- pieces of 64 cells

-- a word that has the bits of a set has the cells of its piece
pub word_cells : (n v : ℕ) (A : ℕ → Bool) → ((j : ℕ) → j < 64 → bit v j ≡ A (64 * n + j)) → (c : ℕ) → piece 64 n (λ d. bit v (d % 64)) c ≡ piece 64 n A c
unfolding piece
word_cells n v A f c = go (eqb (c / 64) n) refl
  where
    go : (b : Bool) → eqb (c / 64) n ≡ b → (b && bit v (c % 64)) ≡ (b && A c)
    go true e = let q = eqb-true (c / 64) n e in f (c % 64) (omega arith) ∙ ap A (omega arith)
    go false e = refl

-- 0 has none
pub no_cells : (n v c : ℕ) → v ≡ 0 → piece 64 n (λ d. bit v (d % 64)) c ≡ false
unfolding piece
no_cells n v c e = ap (λ (b : Bool). eqb (c / 64) n && b) (ap (λ (x : ℕ). bit x (c % 64)) e ∙ bit_zero (c % 64)) ∙ and-false (eqb (c / 64) n)

-- where the word is 0 the piece adds no spot
pub no_word_spots : (kind : ℕ → ℕ → Triangle) (k n v : ℕ) (A : ℕ → Bool) (i : ℕ) → ((j : ℕ) → j < 64 → bit v j ≡ A (64 * n + j)) → v ≡ 0 →
    cell_at kind k (piece 64 n A) i ≡ false
unfolding cell_at
no_word_spots kind k n v A i f e =
    let c = number k (octant_at i, kind (row_at i) (col_at i)) in
    rw (sym (word_cells n v A f c) ∙ no_cells n v c e) (and-false _)

-- a piece whose cells are not marked, written
pub word_stored : (n v : ℕ) (A : ℕ → Bool) (s r : List ℕ) → ((j : ℕ) → j < 64 → bit v j ≡ A (64 * n + j)) → ((c : ℕ) → c / 64 ≡ n → marked s c ≡ false) →
    ((c : ℕ) → marked r c ≡ cond (eqb (c / 64) n) (bit v (c % 64)) (marked s c)) → Marked (piece 64 n A) s r
unfolding piece
word_stored n v A s r f z g c = g c ∙ go (eqb (c / 64) n) refl
  where
    go : (b : Bool) → eqb (c / 64) n ≡ b → cond b (bit v (c % 64)) (marked s c) ≡ (marked s c || (b && A c))
    go true e =
        let q = eqb-true (c / 64) n e in
        f (c % 64) (omega arith) ∙ ap A (omega arith) ∙ sym (ap (λ (b : Bool). b || A c) (z c q))
    go false e = sym (or-false (marked s c))
