-- What follows from the answers of growing and shrinking, whose tests are the same. Assumes nothing.
use Prim.Native.Nat.{ℕ, ◌^◌, ◌≤◌}
use mathlib.Core.Path.{◌≡◌, ap, ap₂, ◌∙◌}
use mathlib.Core.List.{List}
use borrow.Author.Tests.{ltb-false}
use lib.ListN.{length}
use Rattle.refusal.specs.Answer.{Answer, given, refused, in_order, lending, done}
use Rattle.refusal.proofs.Answers.{passed, given≢refused, lent_given}
use Rattle.refusal.proofs.Tests.{length_is}
use Rattle.bitset.specs.Bits.{marked, bytes_of}
use Rattle.mask.specs.Mask.{max_mask_level}
use Rattle.grow.specs.Grow.{max_rings, grown_cells, shrunk_cells, ring_tests, grow_call, shrink_call}

-- three masks of a level and a number of rings, as both calls take them
pub record Ready (k m : ℕ) (a out work : List ℕ) : Type 0 where
  pub level : k ≤ max_mask_level
  pub read : length a ≡ 4 ^ k
  pub written : length out ≡ 4 ^ k
  pub working : length work ≡ 4 ^ k
  pub rings : m ≤ max_rings

-- so they are where no test refuses, and then none does
pub ready : (k m : ℕ) (a out work : List ℕ) → given done ≡ in_order (ring_tests k m a out work) done → Ready k m a out work
ready k m a out work e =
    let t = (passed (ring_tests k m a out work) done done e).0 in
    record {
      level = ltb-false max_mask_level k t.0;
      read = length_is (4 ^ k) a t.1.0;
      written = length_is (4 ^ k) out t.1.1.0;
      working = length_is (4 ^ k) work t.1.1.1.0;
      rings = ltb-false max_rings m t.1.1.1.1.0;
    }

-- and where they do not, both are as the call writes them
pub prepared : {S : Type 0} (answer : Answer (Unit {0})) (s before after : S) → (given done, s) ≡ lending answer before after → (given done ≡ answer) × (s ≡ after)
prepared {S} (given a) s before after e = (ap (λ (p : Answer (Unit {0}) × S). p.0) e, ap (λ (p : Answer (Unit {0}) × S). p.1) e)
prepared {S} (refused n) s before after e = given≢refused (ap (λ (p : Answer (Unit {0}) × S). p.0) e)

pub rings_done : (k m : ℕ) (a out work o w o' w' : List ℕ) → given done ≡ in_order (ring_tests k m a out work) done →
    o ≡ o' → w ≡ w' → (given done, (o, w)) ≡ lending {S = List ℕ × List ℕ} (in_order (ring_tests k m a out work) done) (out, work) (o', w')
rings_done k m a out work o w o' w' h p q =
    ap₂ (λ (x y : List ℕ). (given done, (x, y))) p q
    ∙ lent_given (in_order (ring_tests k m a out work) done) (out, work) (o', w') done h

-- what the two calls write where they are not refused
pub grown_bytes : (k m : ℕ) (a out work : List ℕ) → (grow_call k m a out work).0 ≡ given done →
    (grow_call k m a out work).1.0 ≡ bytes_of (4 ^ k) (grown_cells k m (marked a))
grown_bytes k m a out work e = rw e

pub shrunk_bytes : (k m : ℕ) (a out work : List ℕ) → (shrink_call k m a out work).0 ≡ given done →
    (shrink_call k m a out work).1.0 ≡ bytes_of (4 ^ k) (shrunk_cells k m (marked a))
shrunk_bytes k m a out work e = rw e
