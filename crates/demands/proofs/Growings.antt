-- Lists of growings: whatever was refused, the mask is A grown by the sum of the accepted ring counts. Assumes nothing.
use Prim.Native.Nat.{ℕ, suc, ◌+◌, ◌^◌, ◌<◌}
use mathlib.Core.Path.{◌≡◌, refl, sym, ap, subst, ◌∙◌}
use mathlib.Core.Bool.{Bool, true, false}
use mathlib.Core.List.{List, [], ◌∷◌}
use native.Mathlib.Nat.{zero-add, add_assoc, add_comm, add-zero, pow-suc, pow-le-pow_right, one-le-pow}
use native.Mathlib.Omega.{arith}
use borrow.Author.Tests.{ltb-true, ltb-false}
use lib.Dec.{ltb}
use lib.ListN.{length}
use Rattle.refusal.specs.Answer.{Answer, given, refused}
use Rattle.bitset.specs.Bits.{marked, bytes_of}
use Rattle.bitset.proofs.Laws.{length_bytes_of, marked_bytes_of, bytes_of_cong, bytes_of_marked}
use Rattle.cell.specs.Cell.{cells}
use Rattle.corner.specs.Corner.{touches}
use Rattle.grow.specs.Grow.{grown_cells}
use Rattle.walk.proofs.Reach.{grown_cong, grown_zero, grown_grown}
use Rattle.grow.proofs.Answers.{ready, grown_bytes}
use Rattle.demands.specs.Demand3.{Mask, Accepted, written, Growing, growing, mask_after, rings_added, after_one, after, rings_of}

-- a power of 4 has one exponent
four_less : (i j : ℕ) → i < j → 4 ^ i < 4 ^ j
four_less i j h = omega (arith, pow-suc 4 i, pow-le-pow_right {n = 4} (omega arith) {i = suc i} {j = j} h, one-le-pow i 4 (omega arith))

four_once : (i j : ℕ) → 4 ^ i ≡ 4 ^ j → i ≡ j
four_once i j e = go (ltb i j) (ltb j i) refl refl
  where
    go : (b b' : Bool) → ltb i j ≡ b → ltb j i ≡ b' → i ≡ j
    go true b' p q = absurd (omega (arith, four_less i j (ltb-true i j p)))
    go false true p q = absurd (omega (arith, four_less j i (ltb-true j i q)))
    go false false p q = omega (arith, ltb-false i j p, ltb-false j i q)

-- the mask after some growings: the bytes of the cells within s steps of A
abbrev Grown : ℕ → List ℕ → ℕ → List ℕ → Type 0
Grown k a s b = b ≡ bytes_of (4 ^ k) (grown_cells k s (marked a))

module _ (k : ℕ) (a : List ℕ) where
  -- one growing more
  grown_again : (s m : ℕ) (b : List ℕ) → Grown k a s b → Grown k a (s + m) (bytes_of (4 ^ k) (grown_cells k m (marked b)))
  grown_again s m b e = bytes_of_cong (4 ^ k) (grown_cells k m (marked b)) (grown_cells k (s + m) (marked a)) (λ c h.
      let S = grown_cells k s (marked a) in
      grown_cong (cells k) (touches k) m (marked b) S (λ d l. ap (λ (x : List ℕ). marked x d) e ∙ marked_bytes_of (4 ^ k) S d l) c
      ∙ grown_grown (cells k) (touches k) m s (marked a) c
      ∙ ap (λ (n : ℕ). grown_cells k n (marked a) c) (add_comm m s))

  -- an accepted one is of the level that the mask's length says
  accepted_grown : (g : Growing) (s : ℕ) (b : List ℕ) → Grown k a s b → Accepted (growing g b) → Grown k a (s + g.rings) (written (growing g b))
  accepted_grown g s b e q =
      let r = ready g.level g.rings b g.lent g.working (sym q) in
      let l : g.level ≡ k = four_once g.level k (sym r.read ∙ ap length e ∙ length_bytes_of (4 ^ k) (grown_cells k s (marked a))) in
      grown_bytes g.level g.rings b g.lent g.working q
      ∙ ap (λ (i : ℕ). bytes_of (4 ^ i) (grown_cells i g.rings (marked b))) l
      ∙ grown_again s g.rings b e

  -- one growing, accepted or refused
  one_growing : (g : Growing) (s : ℕ) (b : List ℕ) → Grown k a s b → Grown k a (s + rings_added (growing g b).0 g.rings) (after_one g b)
  unfolding mask_after rings_added
  one_growing g s b e = go (growing g b).0 refl
    where
      Goal : Answer (Unit {0}) → Type 0
      Goal r = Grown k a (s + rings_added r g.rings) (mask_after r (written (growing g b)) b)

      go : (r : Answer (Unit {0})) → (growing g b).0 ≡ r → Goal (growing g b).0
      go (given v) q = subst Goal (sym q) (accepted_grown g s b e q)
      go (refused n) q = subst Goal (sym q) (subst (λ (i : ℕ). Grown k a i b) (sym (add-zero s)) e)

  many : (gs : List Growing) (s : ℕ) (b : List ℕ) → Grown k a s b → Grown k a (s + rings_of gs b) (after gs b)
  unfolding after rings_of
  many [] s b e = rw add-zero e
  many (g ∷ gs) s b e =
      let n = rings_added (growing g b).0 g.rings in
      let next = after_one g b in
      subst (λ (i : ℕ). Grown k a i (after gs next)) (add_assoc s n (rings_of gs next)) (many gs (s + n) next (one_growing g s b e))

  -- after any list of growings the mask is A grown by the sum of the accepted ring counts
  pub growings : (gs : List Growing) → Mask k a → after gs a ≡ bytes_of (4 ^ k) (grown_cells k (rings_of gs a) (marked a))
  growings gs m =
      let none = bytes_of_cong (4 ^ k) (grown_cells k 0 (marked a)) (marked a) (grown_zero (cells k) (touches k) (marked a)) in
      rw zero-add at (many gs 0 a (sym (none ∙ bytes_of_marked (4 ^ k) a m.0 m.1)))
