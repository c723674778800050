-- `read_groups` meets its contract. The invariant: the groups before `before` are read, each with its high bit set. Assumes nothing.
use native.Mathlib.Omega.{arith}
use Rattle.std.proofs.Common.{◌≡◌, ◌≤◌, ◌<◌, length, get_or}
use Rattle.std.proofs.lemmas.Grind.{common_steps}
use Rattle.std.proofs.lemmas.Option.{gets}
use Rattle.std.proofs.lemmas.Result.{err_from_is_err_and}
use Rattle.refusal.specs.declared.Refusal.TheVariants.{Short}
use Rattle.varint.proofs.Groups.{reading_more, reading_last, reading_short, reading_long}
use Rattle.varint.proofs.read_groups.Goals as goal
use Rattle.varint.proofs.read_groups.Goals.{In_err-ok_or, After-from-byte}

-- they end before a group
short : (c : In_err-ok_or) → (length c.args.bytes.now ≤ c.loop-before.before) × (c.in_err-ok_or.field-0.0 ≡ Short)
short c = (grind (arith, common_steps, gets), grind (arith, common_steps))

pub returns-in_err-ok_or : goal.returns-in_err-ok_or
returns-in_err-ok_or c =
    let n = short (goal.at.returns-in_err-ok_or c).In_err-ok_or in
    let p = err_from_is_err_and c.from_residual.result c.from_residual.ensures.1 in
    rw (p.1, p.2, n.1) (reading_short _ _ _ _ (omega arith) c.loop-before.invariant n.0)

-- or they have it
byte : (c : After-from-byte) →
    let bs = c.args.bytes.now in
    let k = c.loop-before.before in
    (k < length bs) × (c.from-byte.result ≡ get_or bs k 0)
byte c = (grind (arith, common_steps, gets), grind (arith, common_steps, gets))

pub returns-then-byte-lt128 : goal.returns-then-byte-lt128
returns-then-byte-lt128 c =
    let b = byte (goal.at.returns-then-byte-lt128 c).After-from-byte in
    rw b.1 (reading_last _ _ _ _ (omega arith) c.loop-before.invariant b.0 (omega arith))

pub loop-before-preserved : goal.loop-before-preserved
loop-before-preserved c =
    let b = byte (goal.at.loop-before-preserved c).After-from-byte in
    rw b.1 (reading_more _ _ _ _ (omega arith) c.loop-before.invariant b.0 (omega arith) (omega (arith, c.type_inv.bytes c.loop-before.before)))

pub returns : goal.returns
returns c = (reading_long _ _ _ (let e : c.loop-before.before ≡ 5 = omega arith in rw e at c.loop-before.invariant))
