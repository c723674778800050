-- `from` meets its contract: each side goes its own way. Assumes nothing.
use Rattle.adjacency.specs.Cube.{moved_cube}
use Rattle.cubes.proofs.way.Ways.from.Goals as goal

pub returns : goal.returns
unfolding moved_cube
returns c =
    let w = c.by_axis-x.ensures in
    let x = rw w.0 at c.from.ensures in
    let y = rw w.1 at c.from-2.ensures in
    let z = rw w.2 at c.from-3.ensures in
    λ i. record { x = x i; y = y i; z = z i }
