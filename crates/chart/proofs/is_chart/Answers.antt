-- Each slice has as many items as the level has cells, as the code shifts them, or it has not.
use native.Mathlib.Omega.{arith}
use borrow.Author.Tests.{le-ltb, eq-eqb, ne_eqb}
use Rattle.cell.proofs.Answers.{given_level}
use Rattle.mask.specs.Mask.{max_mask_level}
use Rattle.mask.proofs.Laws.{level_shifted}
use Rattle.chart.proofs.is_chart.Goals as goal
use Rattle.chart.proofs.is_chart.Goals.{then-temperatures-cells-via-then-temperatures-cells, then-temperatures-cells-via-else-temperatures-cells+then-ages-cells}

pub returns-then-temperatures-cells : goal.returns-then-temperatures-cells
returns-then-temperatures-cells c =
    let k = c.in_ok-level.level.k in
    let h = c.in_ok-level.level.bounded in
    let g = given_level _ _ _ c.in_ok-level.ensures in
    let s = level_shifted 64 8 k h (omega arith) in
    rw g.1 (elim c.then-temperatures-cells.branch [
      | then-temperatures-cells-via-then-temperatures-cells w ↦ simp (le-ltb max_mask_level k h, ne_eqb _ _ (rw s at w.if-temperatures-cells.true))
      | then-temperatures-cells-via-else-temperatures-cells+then-ages-cells w ↦
          simp (le-ltb max_mask_level k h, eq-eqb _ _ (rw s at w.if-temperatures-cells.false), ne_eqb _ _ (rw s at w.if-ages-cells.true))
    ])

pub returns : goal.returns
returns c =
    let k = c.in_ok-level.level.k in
    let h = c.in_ok-level.level.bounded in
    let g = given_level _ _ _ c.in_ok-level.ensures in
    let s = level_shifted 64 8 k h (omega arith) in
    rw g.1 (simp (le-ltb max_mask_level k h, eq-eqb _ _ (rw s at c.if-temperatures-cells.false), eq-eqb _ _ (rw s at c.if-ages-cells.false)))
