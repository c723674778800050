-- What the parts of reading a border claim.
use Rattle.std.specs.Prelude.{ℕ, List, [], ◌++◌, length, drop}
use Rattle.std.proofs.Math.Option.{Option}
use Rattle.refusal.specs.Answer.{Answer, in_order, lending}
use Rattle.code.specs.Step.{found_or}
use Rattle.border.specs.Stored.{unpacked, walked}
use Rattle.border.specs.Border.{Header, cells_of, code_tests}
use Rattle.border_reader.specs.declared.header.Header as declared

abbrev pub header_is : declared.Header → Header
header_is h = (h.level.k, h.start, h.count, h.next)

-- the cells that the codes after a header lead through, where no step is missing
abbrev pub cells_met : declared.Header → List ℕ → Option (List ℕ)
cells_met h codes = walked h.level.k h.start (unpacked h.count codes)

-- what is left to be answered once a header was read: the answer, and the slice afterwards
abbrev pub read_on : List ℕ → List ℕ → Header → Answer (ℕ × ℕ) × List ℕ
read_on bs out h =
    let found = found_or [] (cells_of bs h) in
    lending (in_order (code_tests bs (length out) h) (h.0, length found)) out (found ++ drop (length found) out)
