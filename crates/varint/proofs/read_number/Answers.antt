-- `read_number` meets its contract: past the end of the bytes there is nothing to read. Assumes nothing.
use native.Mathlib.Omega.{arith}
use Rattle.std.proofs.Common.{◌≡◌, ◌≤◌, length, drop}
use Rattle.std.proofs.lemmas.Grind.{common_steps}
use Rattle.std.proofs.lemmas.List.{drop_all}
use Rattle.std.proofs.lemmas.Result.{err_from_is_err_and}
use Rattle.refusal.specs.declared.Refusal.TheVariants.{Short}
use Rattle.varint.specs.Varint.{valued}
use Rattle.varint.proofs.Calls.{read_within}
use Rattle.varint.proofs.read_number.Goals as goal
use Rattle.varint.proofs.read_number.Goals.{In_err-ok_or, In_ok-ok_or}

-- there are no bytes at the place
past : (c : In_err-ok_or) → (length c.args.bytes.now ≤ c.args.at) × (c.in_err-ok_or.field-0.0 ≡ Short)
past c = (grind (arith, common_steps), grind (arith, common_steps))

pub returns-in_err-ok_or : goal.returns-in_err-ok_or
unfolding valued
returns-in_err-ok_or c =
    let n = past (goal.at.returns-in_err-ok_or c).In_err-ok_or in
    let p = err_from_is_err_and c.from_residual.result c.from_residual.ensures.1 in
    rw (p.1, p.2, n.1, drop_all c.args.at c.args.bytes.now n.0)

-- the bytes from the number's place on
rest : (c : In_ok-ok_or) → c.in_ok-ok_or.field-0.now ≡ drop c.args.at c.args.bytes.now
rest c = grind (arith, common_steps)

pub overflow_add-result : goal.overflow_add-result
overflow_add-result c =
    omega (arith, read_within c.args.bytes.now c.args.at _ _ (rw (rest (goal.at.overflow_add-result c).In_ok-ok_or) at c.in_ok-value.ensures), c.well_formed)
