-- `place_at` meets its contract: the steps are those of the way. Assumes nothing.
use Rattle.touch.proofs.Steps.{steps_at}
use Rattle.touch.proofs.inner.place_at.Goals as goal

pub step_of-requires : goal.step_of-requires
step_of-requires c = (steps_at c.args.place.kind c.args.i c.requires.0).row_small

pub step_of-requires-2 : goal.step_of-requires-2
step_of-requires-2 c = (steps_at c.args.place.kind c.args.i c.requires.0).col_small
