-- `put_cell` meets its contract: the set of one cell is at its spot, in the rows of its kind. Assumes nothing.
use mathlib.Core.Path.{sym}
use mathlib.Core.Bool.{or-false}
use native.Mathlib.Omega.{arith}
use Rattle.cell.specs.declared.Kind.TheVariants.{Up, Down}
use Rattle.raster.proofs.Located.{cell_set}
use Rattle.raster.proofs.cells.put_cell.Goals as goal

pub returns-in-Up : goal.returns-in-Up
returns-in-Up c =
    let a = c.args in
    let set = cell_set a.cell.level.k a.cell.number _ Up (omega arith) a.cell.below c.place_at-place.ensures c.in-Up.is c.spot_of-spot.ensures in
    record { ups = set Up a.rows.now.up _ c.set_bit.ensures; downs = set Down a.rows.now.down _ (λ i. sym (or-false _)) }

pub returns-in-Down : goal.returns-in-Down
returns-in-Down c =
    let a = c.args in
    let set = cell_set a.cell.level.k a.cell.number _ Down (omega arith) a.cell.below c.place_at-place.ensures c.in-Down.is c.spot_of-spot.ensures in
    record { ups = set Up a.rows.now.up _ (λ i. sym (or-false _)); downs = set Down a.rows.now.down _ c.set_bit-in-Down.ensures }
