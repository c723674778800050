-- What follows from the answers of filling. Assumes nothing.
use Prim.Native.Nat.{ℕ, ◌*◌, ◌%◌, ◌^◌, ◌≤◌, ◌<◌}
use mathlib.Core.Path.{◌≡◌, ap, ◌∙◌}
use mathlib.Core.Bool.{false, not}
use mathlib.Core.List.{List}
use native.Mathlib.Omega.{arith}
use borrow.Author.Tests.{ltb-false, leb-false}
use lib.ListN.{length}
use Rattle.refusal.specs.Answer.{given, in_order, done}
use Rattle.refusal.proofs.Answers.{passed, lent_given}
use Rattle.refusal.proofs.Tests.{length_is}
use Rattle.bitset.specs.Bits.{marked, bytes_of, outside}
use Rattle.bitset.proofs.Laws.{length_bytes_of, marked_bytes_of, bytes_of_cong}
use Rattle.cell.specs.Cell.{cells}
use Rattle.mask.specs.Mask.{max_mask_level}
use Rattle.mask.proofs.Laws.{level_shifted}
use Rattle.fill.specs.Fill.{reachable, unreached, fill_tests, fill_call}

-- how many bytes a mask of a level has, as the code shifts the count
pub bytes_shifted : (k : ℕ) → k ≤ max_mask_level → 1 * 2 ^ (2 * k) % 2 ^ 64 ≡ 4 ^ k
bytes_shifted k h = level_shifted 64 1 k h (omega arith) ∙ omega arith

-- a border, an outside cell and a slice, as filling takes them
pub record Ready (k : ℕ) (a : List ℕ) (o : ℕ) (out : List ℕ) : Type 0 where
  pub level : k ≤ max_mask_level
  pub cell : o < cells k
  pub read : length a ≡ 4 ^ k
  pub written : length out ≡ 4 ^ k
  pub unmarked : marked a o ≡ false

-- so they are where no test refuses
pub ready : (k : ℕ) (a : List ℕ) (o : ℕ) (out : List ℕ) → given done ≡ in_order (fill_tests k a o out) done → Ready k a o out
ready k a o out e =
    let t = (passed (fill_tests k a o out) done done e).0 in
    record {
      level = ltb-false max_mask_level k (search t);
      cell = leb-false (cells k) o (search t);
      read = length_is (4 ^ k) a (search t);
      written = length_is (4 ^ k) out (search t);
      unmarked = search t;
    }

-- a call that no test refuses writes what can't be reached
pub fill_done : (k : ℕ) (a : List ℕ) (o : ℕ) (out reached l : List ℕ) → given done ≡ in_order (fill_tests k a o out) done →
    reached ≡ bytes_of (4 ^ k) (reachable k (marked a) o) → l ≡ bytes_of (length reached) (outside (marked reached)) →
    (given done, l) ≡ fill_call k a o out
unfolding outside
fill_done k a o out reached l h e f =
    let R = reachable k (marked a) o in
    let n = ap length e ∙ length_bytes_of (4 ^ k) R in
    let same = bytes_of_cong (4 ^ k) (outside (marked reached)) (outside R) (λ c u.
    ap (λ (x : List ℕ). not (marked x c)) e ∙ ap not (marked_bytes_of (4 ^ k) R c u)) in
    ap (λ (x : List ℕ). (given done, x)) (f ∙ ap (λ (i : ℕ). bytes_of i (outside (marked reached))) n ∙ same)
    ∙ lent_given (in_order (fill_tests k a o out) done) out (bytes_of (4 ^ k) (outside R)) done h

-- what it writes where it is not refused
pub filled_bytes : (k : ℕ) (a : List ℕ) (o : ℕ) (out : List ℕ) → (fill_call k a o out).0 ≡ given done →
    (fill_call k a o out).1 ≡ bytes_of (4 ^ k) (unreached k (marked a) o)
filled_bytes k a o out e = rw e
