-- `are_touching` meets its contract: the sums are those of the definition. Assumes nothing.
use mathlib.Core.Path.{◌∙◌}
use borrow.Author.Tests.{eq-eqb, ne_eqb}
use Rattle.adjacency.specs.Cube.{touching_way}
use Rattle.cubes.proofs.way.Ways.are_touching.Goals as goal

pub returns-then-self-eq13 : goal.returns-then-self-eq13
unfolding touching_way
returns-then-self-eq13 c = rw (eq-eqb c.args.self.number 13 c.if-self-eq13.true)

-- where the way was found to be another than 13
pub returns : goal.returns
unfolding touching_way
returns c =
    let n = ne_eqb c.args.self.number 13 c.if-self-eq13.false in
    let w = c.by_axis-x.ensures in
    c.sums_fit.ensures
    ∙ rw (
      n,
      rw w.0 at c.least.ensures.0,
      rw w.1 at c.least-2.ensures.0,
      rw w.2 at c.least-3.ensures.0,
      rw w.0 at c.most.ensures.0,
      rw w.1 at c.most-2.ensures.0,
      rw w.2 at c.most-3.ensures.0,
      rw w.0 at c.taken_off.ensures.0,
      rw w.1 at c.taken_off-2.ensures.0,
      rw w.2 at c.taken_off-3.ensures.0,
    )
