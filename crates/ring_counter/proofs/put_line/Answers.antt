-- Two counts piece after piece, or the line of a refusal.
use native.Mathlib.Omega.{arith}
use Rattle.text.proofs.Laws.{refusal_alone}
use Rattle.ring_counter.proofs.Lines.{counts_line}
use Rattle.ring_counter.proofs.put_line.Goals as goal

pub returns-in-Ok : goal.returns-in-Ok
returns-in-Ok c =
    let l =
    counts_line c.args.out.now _ _ _ _ _ _ _ _ _ _ c.told-out
    c.append_decimal-a.ensures
    c.append-b.ensures
    c.append_decimal-c.ensures
    c.append.ensures
    in
    record { fits = l.0; text = rw c.in-Ok.is (simp (c.from.ensures, c.from-in-Ok.ensures) at l.1) }

pub returns-in-Err : goal.returns-in-Err
returns-in-Err c =
    let l = refusal_alone c.args.out.now _ _ _ (omega (arith, c.told-out)) c.append_refusal.ensures in
    record { fits = l.0; text = rw c.in-Err.is (rw c.number.ensures at l.1) }
