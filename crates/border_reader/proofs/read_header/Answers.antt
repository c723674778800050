-- What is left where the start cell was read: the number of codes. Assumes nothing.
use native.Mathlib.Omega.{arith}
use Rattle.std.proofs.Common.{rules}
use Rattle.border_reader.proofs.Reading.{Started, leveled, started, count_unread, count_high, header_read}
use Rattle.border_reader.proofs.read_header.Goals as goal
use Rattle.border_reader.proofs.read_header.Goals.{Else-not-is_cell}

start-read : (c : Else-not-is_cell) → Started c.args.bytes.now c.in_ok-level-2.level.k c.in_ok-start.start c.in_ok-start.after_start
start-read c =
    started _ _ _ _ _ _ (leveled _ _ _ _ c.in_ok-level.ensures c.in_ok-level-2.ensures) c.in_ok-start.ensures c.is_cell.ensures
    (search rules)

pub returns-in_err-count-clause-answer : goal.returns-in_err-count-clause-answer
returns-in_err-count-clause-answer c =
    search (rules, count_unread _ _ _ _ _ (start-read (goal.at.returns-in_err-count-clause-answer c).Else-not-is_cell) c.in_err-count.ensures)

pub returns-then-count-gt-MAX_CODES-clause-answer : goal.returns-then-count-gt-MAX_CODES-clause-answer
returns-then-count-gt-MAX_CODES-clause-answer c =
    count_high _ _ _ _ _ _ (start-read (goal.at.returns-then-count-gt-MAX_CODES-clause-answer c).Else-not-is_cell) c.in_ok-count.ensures (omega arith)

pub returns-clause-answer : goal.returns-clause-answer
returns-clause-answer c =
    header_read _ _ _ _ _ _ (start-read (goal.at.returns-clause-answer c).Else-not-is_cell) c.in_ok-count.ensures (omega arith)
