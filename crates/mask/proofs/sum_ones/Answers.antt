-- The ones of the bytes are the cells that the mask marks.
use Rattle.std.proofs.Common.{◌≡◌, ◌*◌, ◌<◌, ◌≤◌, ℕ, zero, suc, ◌+◌, List, length, get_or, take, sum_by, refl, sym, ◌∙◌, rules, arith, add-one}
use Rattle.std.specs.Int.RustNames.{count_ones}
use Rattle.std.proofs.Math.Seq.{take-length}
use Rattle.std.proofs.lemmas.List.Sums.{sum_by_more}
use Rattle.bitset.specs.Bits.{marked, size}
use Rattle.bitset.proofs.Laws.{size_byte, ones_size}
use Rattle.mask.proofs.sum_ones.Goals as goal

ones_marked : (s : List ℕ) → ((k : ℕ) → get_or s k 0 < 256) → (n : ℕ) → n ≤ length s → sum_by count_ones (take n s) ≡ size (8 * n) (marked s)
unfolding size
ones_marked s f zero h = refl
ones_marked s f (suc n) h =
    let e : sum_by count_ones (take (suc n) s) ≡ sum_by count_ones (take n s) + count_ones (get_or s n 0) = rw (sym (add-one n)) (sum_by_more count_ones s n 0 h) in
    e ∙ rw (ones_marked s f n (omega arith), ones_size 8 (get_or s n 0) (f n)) (sym (size_byte s n))

pub returns : goal.returns
returns c =
    let s = c.args.mask.now in
    let e : c.sum.result ≡ sum_by count_ones s = search rules in
    e ∙ rw take-length at (ones_marked s (λ k. omega (arith, c.type_inv.mask k)) (length s) (omega arith))
