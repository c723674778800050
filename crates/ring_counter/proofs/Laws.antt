-- What the calls of the library come to on masks of level 5, and that no more of the input is wanted than is read. Assumes nothing.
use Prim.Native.Nat.{ℕ, ◌<◌}
use mathlib.Core.Path.{◌≡◌, refl, sym, ap, ap₂, ◌∙◌}
use mathlib.Core.Bool.{Bool, true, false}
use mathlib.Core.List.{List, [], ◌∷◌}
use native.Mathlib.Omega.{arith}
use borrow.Author.Tests.{ne_eqb, leb-true, leb-false}
use lib.Dec.{leb}
use lib.ListN.{length, take, length-take}
use lib.Seq.{take_all}
use Rattle.refusal.specs.Answer.{Answer, given, Test, in_order, done}
use Rattle.refusal.specs.Tests.{bad_level, bad_length}
use Rattle.refusal.proofs.Answers.{passed, gives, passed_on}
use Rattle.refusal.proofs.Tests.{length_passes}
use Rattle.bitset.specs.Bits.{marked, size}
use Rattle.bitset.proofs.Laws.{marked_bytes_of, size_cong}
use Rattle.cell.specs.Cell.{cells}
use Rattle.mask.specs.Mask.{max_mask_level, count_call}
use Rattle.grow.specs.Grow.{grown_cells, bad_rings, ring_tests, grow_call}
use Rattle.grow.proofs.Answers.{grown_bytes}
use Rattle.ring_counter.specs.RingCounter.{input_bytes, counts, ring_counts, line, output, front_bytes}

-- a mask of level 5 is counted
pub counted : (a : List ℕ) → length a ≡ 1024 → count_call 5 a ≡ given (size (cells 5) (marked a))
counted a e = rw e

-- of the tests of growing it, that of the rings alone is left
module _ (m : ℕ) (a o w : List ℕ) (la : length a ≡ 1024) (lo : length o ≡ 1024) (lw : length w ≡ 1024) where
  sizes : List Test
  sizes = bad_level max_mask_level 5 ∷ bad_length 1024 a ∷ bad_length 1024 o ∷ bad_length 1024 w ∷ []

  only_rings : {A : Type 0} (v : A) → in_order (bad_rings m ∷ []) v ≡ in_order (ring_tests 5 m a o w) v
  unfolding sizes
  only_rings v = passed_on sizes (bad_rings m ∷ []) v (refl, (length_passes 1024 a la, (length_passes 1024 o lo, (length_passes 1024 w lw, tt))))

  -- it is grown, and both masks are counted
  pub both_counted : (x y : List ℕ) (p q : ℕ) → (given done, (x, y)) ≡ grow_call 5 m a o w →
      p ≡ size (cells 5) (marked a) → q ≡ size (cells 5) (marked x) → given (p, q) ≡ in_order (bad_rings m ∷ []) (counts m a)
  both_counted x y p q e ep eq =
      let g = ap (λ (r : Answer (Unit {0}) × (List ℕ × List ℕ)). r.0) e in
      let b = ap (λ (r : Answer (Unit {0}) × (List ℕ × List ℕ)). r.1.0) e ∙ grown_bytes 5 m a o w (sym g) in
      let G = grown_cells 5 m (marked a) in
      let s = eq ∙ ap (λ (l : List ℕ). size (cells 5) (marked l)) b ∙ size_cong (cells 5) (marked _) G (marked_bytes_of 1024 G) in
      ap₂ (λ (i j : ℕ). given (i, j)) ep s ∙ gives (bad_rings m ∷ []) (counts m a) (passed (bad_rings m ∷ []) done done (g ∙ sym (only_rings done))).0

-- of a longer input the first n bytes, n above what it may have, are judged as the whole
pub front_decides : (n : ℕ) (input : List ℕ) → input_bytes < n → output (take n input) ≡ output input
front_decides n input h = ap line (go (leb (length input) n) refl)
  where
    go : (b : Bool) → leb (length input) n ≡ b → ring_counts (take n input) ≡ ring_counts input
    go true e = ap ring_counts (take_all n input (leb-true (length input) n e))
    go false e =
        let l = leb-false (length input) n e in
        let t : length (take n input) ≡ input_bytes → ⊥ = λ q. omega (arith, simp length-take at q) in
        rw (ne_eqb (length (take n input)) input_bytes t, ne_eqb (length input) input_bytes (omega arith))

-- so the bytes that are read
pub front_read : (input : List ℕ) → output (take front_bytes input) ≡ output input
front_read input = front_decides front_bytes input (omega arith)
