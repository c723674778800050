-- What follows where a call's tests of a mask are passed. Assumes nothing.
use Prim.Native.Nat.{ℕ, ◌^◌, ◌≤◌}
use mathlib.Core.Path.{◌≡◌}
use mathlib.Core.List.{List}
use borrow.Author.Tests.{ltb-false}
use lib.ListN.{length}
use Rattle.refusal.specs.Answer.{given, done}
use Rattle.refusal.proofs.Answers.{Passed, passed}
use Rattle.refusal.proofs.Tests.{length_is}
use Rattle.bitset.specs.Bits.{marked, bytes_of}
use Rattle.mask.specs.Mask.{max_mask_level, mask_tests, mask_call, union, join_call}
use Rattle.mask.proofs.Laws.{mask_small}

-- a slice is a mask of level k
pub record IsMask (k : ℕ) (a : List ℕ) : Type 0 where
  pub level : k ≤ max_mask_level
  pub long : length a ≡ 4 ^ k
  pub short : length a ≤ 4 ^ max_mask_level
  pub passes : Passed (mask_tests k a)

pub is_mask_lem : (k : ℕ) (a : List ℕ) → given done ≡ mask_call k a → IsMask k a
is_mask_lem k a e =
    let t = (passed (mask_tests k a) done done e).0 in
    let h = ltb-false max_mask_level k t.0 in
    let l = length_is (4 ^ k) a t.1.0 in
    record { level = h; long = l; short = rw l (mask_small k h); passes = t }

pub mask_long : (k : ℕ) (a : List ℕ) → given done ≡ mask_call k a → length a ≡ 4 ^ k
mask_long k a e = (is_mask_lem k a e).long

pub mask_short : (k : ℕ) (a : List ℕ) → given done ≡ mask_call k a → length a ≤ 4 ^ max_mask_level
mask_short k a e = (is_mask_lem k a e).short

-- what a join writes where it is not refused
pub joined_bytes : (k : ℕ) (a b out : List ℕ) → (join_call k a b out).0 ≡ given done → (join_call k a b out).1 ≡ bytes_of (4 ^ k) (union (marked a) (marked b))
joined_bytes k a b out e = rw e
