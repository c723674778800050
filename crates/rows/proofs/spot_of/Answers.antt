-- `spot_of` meets its contract, case by case. Assumes nothing.
use mathlib.Core.Path.{sym}
use native.Mathlib.Omega.{arith}
use Rattle.rows.proofs.Spots.{spot_in_lem, no_octant, no_row, no_col}
use Rattle.rows.proofs.spot_of.Goals as goal
use Rattle.rows.proofs.spot_of.Goals.{then-octant-ge-OCTANTS-via-then-octant-ge-OCTANTS, then-octant-ge-OCTANTS-via-else-octant-ge-OCTANTS+then-row-ge-OCTANT_ROWS, then-octant-ge-OCTANTS-via-else-octant-ge-OCTANTS+else-row-ge-OCTANT_ROWS+then-col-ge-ROW_SPOTS}

pub returns-then-octant-ge-OCTANTS : goal.returns-then-octant-ge-OCTANTS
returns-then-octant-ge-OCTANTS c =
    let a = c.args in
    elim c.then-octant-ge-OCTANTS.branch [
      | then-octant-ge-OCTANTS-via-then-octant-ge-OCTANTS w ↦ sym (no_octant a.octant a.row a.col (omega arith))
      | then-octant-ge-OCTANTS-via-else-octant-ge-OCTANTS+then-row-ge-OCTANT_ROWS w ↦ sym (no_row a.octant a.row a.col (omega arith))
      | then-octant-ge-OCTANTS-via-else-octant-ge-OCTANTS+else-row-ge-OCTANT_ROWS+then-col-ge-ROW_SPOTS w ↦ sym (no_col a.octant a.row a.col (omega arith))
    ]

pub returns : goal.returns
returns c = let a = c.args in sym (spot_in_lem a.octant a.row a.col (omega arith) (omega arith) (omega arith))
