-- `read` meets its contract: where a header was read, the codes decide. Assumes nothing.
use Rattle.border_reader.proofs.Reading.{header_given}
use Rattle.border_reader.proofs.read.Goals as goal

pub returns : goal.returns
returns c =
    let a = c.args in
    header_given a.bytes.now a.cells.now _ _ c.in_ok-header.ensures.answer c.read_codes.ensures
