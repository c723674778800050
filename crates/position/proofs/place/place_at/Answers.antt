-- `place_at` meets its contract: the pole is its own case, as in the definition. Assumes nothing.
use borrow.Author.Tests.{eq-eqb, ne_eqb}
use Rattle.position.specs.Position.{q, triangle_at}
use Rattle.position.proofs.place.place_at.Goals as goal

pub returns-then-p-eq-QUARTER : goal.returns-then-p-eq-QUARTER
unfolding triangle_at
returns-then-p-eq-QUARTER c = rw (eq-eqb c.args.at.p q c.if-p-eq-QUARTER.true, c.rows_of.ensures.0)

pub returns-else-p-eq-QUARTER : goal.returns-else-p-eq-QUARTER
unfolding triangle_at
returns-else-p-eq-QUARTER c = rw (ne_eqb c.args.at.p q c.if-p-eq-QUARTER.false) c.holder_of.ensures
