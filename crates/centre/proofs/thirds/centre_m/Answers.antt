-- `centre_m` meets its contract: q² is a whole number of 3N, and the thirds are at most 3N. Assumes nothing.
use Rattle.centre.proofs.Laws.{whole_share}
use Rattle.centre.proofs.thirds.centre_m.Goals as goal

pub returns : goal.returns
returns c = let a = c.args in whole_share a.level.k a.thirds a.rest a.level.bounded
