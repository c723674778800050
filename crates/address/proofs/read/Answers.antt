use Rattle.std.proofs.Common.{◌≡◌, ℕ, ◌+◌, ◌<◌, List, length, get_or, drop, ◌∙◌, arith, add-one, drop-cons}
use lib.Seq.{drop-length}
use Rattle.address.specs.Address.{with_digit, number_from}
use Rattle.address.proofs.read.Goals as goal

-- one character more is read
one_more : (s : List ℕ) (n i : ℕ) → i < length s →
    number_from (with_digit n (get_or s i 0)) (drop (i + 1) s) ≡ number_from n (drop i s)
unfolding number_from
one_more s n i h = rw (add-one, drop-cons s i 0 h)

-- none is left
all_read : (s : List ℕ) (n i : ℕ) → i ≡ length s → n ≡ number_from n (drop i s)
unfolding number_from
all_read s n i h = rw (h, drop-length s)

pub loop-character-preserved : goal.loop-character-preserved
loop-character-preserved c =
    let s = c.args.address.now in
    let i = c.loop-character.character-index in
    let e = one_more s c.loop-character.n i (omega arith) in
    cc c.from.ensures

pub returns : goal.returns
returns c = all_read c.args.address.now _ c.loop-character.character-index (omega arith) ∙ c.loop-character.invariant
