-- A border's open cells, and one cell, as masks and in rows. Assumes nothing.
use Prim.Native.Nat.{ℕ, ◌^◌, ◌≤◌, ◌<◌}
use mathlib.Core.Path.{◌≡◌, ap, ◌∙◌}
use mathlib.Core.Bool.{Bool, true, cond, not, ◌||◌}
use mathlib.Core.List.{List}
use native.Mathlib.Omega.{arith}
use borrow.Author.Tests.{le-leb, eq-eqb}
use lib.Dec.{leb, eqb}
use lib.ListN.{length, replicate, length-replicate}
use Rattle.refusal.proofs.Tests.{both}
use Rattle.bitset.specs.Bits.{marked, marking, bytes_of, outside}
use Rattle.bitset.proofs.Laws.{marked_marking, length_bytes_of}
use Rattle.bitset.proofs.Outside.{complement_marks, marked_zeros}
use Rattle.cell.specs.declared.Kind.{Kind}
use Rattle.cell.specs.declared.Kind.TheVariants.{Up, Down}
use Rattle.cell.specs.Cell.{Triangle, triangle_of, cells}
use Rattle.raster.specs.Raster.{is_mask, cell_at}
use Rattle.raster.proofs.Held.{at_cong}
use Rattle.rows.specs.Rows.{lit}
use Rattle.flood.specs.Flood.{lit_of}

pub is_mask_lem : (k : ℕ) (a : List ℕ) → k ≤ 8 → length a ≡ 4 ^ k → is_mask k a ≡ true
unfolding is_mask
is_mask_lem k a h e = both (leb k 8) (eqb (length a) (4 ^ k)) (le-leb k 8 h) (eq-eqb (length a) (4 ^ k) e)

-- a mask in rows
pub in_rows_lem : (k : ℕ) (X : ℕ → Bool) (a u₀ d₀ u d : List ℕ) → k ≤ 8 → length a ≡ 4 ^ k → ((c : ℕ) → c < cells k → marked a c ≡ X c) →
    ((i : ℕ) → lit u i ≡ cond (is_mask k a) (cell_at Triangle.up k (marked a) i) (lit u₀ i)) →
    ((i : ℕ) → lit d i ≡ cond (is_mask k a) (cell_at Triangle.down k (marked a) i) (lit d₀ i)) →
    (t : Kind) (i : ℕ) → lit_of u d t i ≡ cell_at (triangle_of t) k X i
in_rows_lem k X a u₀ d₀ u d h e f p q = go
  where
    there : (b c : Bool) → cond (is_mask k a) b c ≡ b
    there b c = rw (is_mask_lem k a h e)

    go : (t : Kind) (i : ℕ) → lit_of u d t i ≡ cell_at (triangle_of t) k X i
    go Up i = p i ∙ there (cell_at Triangle.up k (marked a) i) (lit u₀ i) ∙ at_cong k Up (marked a) X i f
    go Down i = q i ∙ there (cell_at Triangle.down k (marked a) i) (lit d₀ i) ∙ at_cong k Down (marked a) X i f

-- a border copied, and complemented
module _ (k : ℕ) (border l r : List ℕ) (hb : length border ≡ 4 ^ k) (same : l ≡ border) (rest : r ≡ bytes_of (length l) (outside (marked l))) where
  pub open_long : length r ≡ 4 ^ k
  open_long = ap length rest ∙ length_bytes_of (length l) (outside (marked l)) ∙ ap length same ∙ hb

  pub open_marks : (c : ℕ) → c < cells k → marked r c ≡ outside (marked border) c
  unfolding outside
  open_marks c h =
      let n : length l ≡ 4 ^ k = ap length same ∙ hb in
      complement_marks l r rest c (omega arith) ∙ ap (λ (s : List ℕ). not (marked s c)) same

-- a mask cleared, and one cell marked
module _ (k o : ℕ) (out l r : List ℕ) (low : o < cells k) (ho : length out ≡ 4 ^ k) (clear : l ≡ replicate (length out) 0) (mark : r ≡ marking l o) where
  pub one_marks : (c : ℕ) → marked r c ≡ eqb o c
  one_marks c =
      let n : length l ≡ 4 ^ k = ap length clear ∙ length-replicate (length out) 0 ∙ ho in
      ap (λ (s : List ℕ). marked s c) mark
      ∙ marked_marking l o c (omega arith)
      ∙ ap (λ (s : List ℕ). marked s c || eqb o c) clear
      ∙ rw (marked_zeros (length out) c)
