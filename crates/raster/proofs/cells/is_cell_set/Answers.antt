-- `is_cell_set` meets its contract: the cell's spot is looked up in the rows of its kind. Assumes nothing.
use mathlib.Core.Path.{◌∙◌}
use native.Mathlib.Omega.{arith}
use Rattle.cell.specs.declared.Kind.TheVariants.{Up, Down}
use Rattle.raster.proofs.Located.{cell_read}
use Rattle.raster.proofs.cells.is_cell_set.Goals as goal

pub returns-in-Up : goal.returns-in-Up
returns-in-Up c =
    let a = c.args in
    c.is_set.ensures ∙ cell_read a.cell.level.k a.cell.number _ Up (omega arith) a.cell.below c.place_at-place.ensures c.in-Up.is c.spot_of-spot.ensures a.rows.now.up a.rows.now.down

pub returns-in-Down : goal.returns-in-Down
returns-in-Down c =
    let a = c.args in
    c.is_set-in-Down.ensures ∙ cell_read a.cell.level.k a.cell.number _ Down (omega arith) a.cell.below c.place_at-place.ensures c.in-Down.is c.spot_of-spot.ensures a.rows.now.up a.rows.now.down
