-- `rows_of` meets its contract: up to the highest level the shift loses nothing. Assumes nothing.
use Rattle.position.proofs.Laws.{rows_shifted}
use Rattle.position.proofs.place.rows_of.Goals as goal

pub returns : goal.returns
returns c = rows_shifted c.args.level.k c.args.level.bounded
