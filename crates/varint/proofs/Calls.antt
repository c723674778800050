-- The answers of the two calls. Assumes nothing.
use Prim.Native.Nat.{ℕ, ◌+◌, ◌-◌, ◌≤◌}
use mathlib.Core.Path.{◌≡◌, sym}
use mathlib.Core.List.{List}
use native.Mathlib.Omega.{arith}
use borrow.Author.Tests.{le-ltb}
use borrow.Rule.Slice.PartMut.{put_mid}
use lib.ListN.{length, drop, length-drop}
use Rattle.std.proofs.lemmas.List.{drop-drop}
use Rattle.refusal.specs.Answer.{given}
use Rattle.varint.specs.Varint.{numeral, valued, write_call}
use Rattle.varint.proofs.Groups.{valued_within}

-- a number ends within the bytes
pub read_within : (bs : List ℕ) (at v n : ℕ) → given (v, n) ≡ valued 5 (drop at bs) → at + n ≤ length bs
read_within bs at v n e = let w = valued_within 5 (drop at bs) v n (sym e) in omega (arith, rw length-drop at w.1)

pub write_given : (n : ℕ) (out part : List ℕ) (at count : ℕ) → count ≡ length (numeral n) → at + count ≤ length out → part ≡ numeral n →
    (given (at + count), put_mid at (at + count - at) out part) ≡ write_call n out at
write_given n out part at count e h q =
    let s : at + count - at ≡ length (numeral n) = omega arith in
    rw (q, s, drop-drop, e, le-ltb (length out) (at + length (numeral n)) (omega arith))
