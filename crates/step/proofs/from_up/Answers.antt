-- `from_up` meets its contract: each arm gives the table's entry for its code. From an up cell that occurs, one row or column less is
-- always inside the octant, and one more is where the test says so.
-- Assumes nothing.
use Prim.Native.Nat.{◌+◌, ◌≤◌, ◌^◌}
use native.Mathlib.Omega.{arith}
use Rattle.cell.specs.Cell.{span, up, down, max_level}
use Rattle.code.specs.Step.{across, step, steps}
use Rattle.step.proofs.Body.{rows_shifted, rows_bound, inside_less, inside_test}
use Rattle.step.proofs.from_up.Goals as goal
use Rattle.step.proofs.from_up.Goals.{Start}

-- row and column end inside the octant, and so far below what a number holds
room : (c : Start) → (c.args.from.place.row + c.args.from.place.col + 1 ≤ 2 ^ c.args.from.level.k) × (2 ^ c.args.from.level.k ≤ 2 ^ max_level)
unfolding span
room c = (rw c.requires at c.args.from.occurs.1, rows_bound c.args.from.level.k c.args.from.level.bounded)

pub overflow_sub-rows-in-OverWest : goal.overflow_sub-rows-in-OverWest
overflow_sub-rows-in-OverWest c = rw (rows_shifted c.args.from.level.k c.args.from.level.bounded) (omega (arith, room (goal.at.overflow_sub-rows-in-OverWest c).Start))

pub returns-in-Top : goal.returns-in-Top
unfolding step steps span
returns-in-Top c =
    let k = c.args.from.level.k in
    let a = c.args.from.place in
    let i = inside_less k a.octant a.row (λ n. down n a.col) (λ m e. omega (arith, room (goal.at.returns-in-Top c).Start)) in
    rw (c.requires, c.in-Top.is, i, ← c.saturating_sub.ensures) c.found_if.ensures

pub returns-in-Left : goal.returns-in-Left
unfolding step steps span
returns-in-Left c =
    let k = c.args.from.level.k in
    let a = c.args.from.place in
    let i = inside_less k a.octant a.col (λ n. down a.row n) (λ m e. omega (arith, room (goal.at.returns-in-Left c).Start)) in
    rw (c.requires, c.in-Left.is, i, ← c.saturating_sub-in-Left.ensures) c.found_if-in-Left.ensures

pub returns-in-Right : goal.returns-in-Right
unfolding step steps span
returns-in-Right c =
    let k = c.args.from.level.k in
    let a = c.args.from.place in
    let t = inside_test k (a.row + a.col + 1) (a.row + a.col + 2) c.args.from.level.bounded (omega arith) in
    rw (c.requires, c.in-Right.is, t) c.found_if-in-Right.ensures

pub returns-in-East : goal.returns-in-East
unfolding step steps span
returns-in-East c =
    let k = c.args.from.level.k in
    let a = c.args.from.place in
    let t = inside_test k (a.row + a.col + 1) (a.row + (a.col + 1) + 1) c.args.from.level.bounded (omega arith) in
    rw (c.requires, c.in-East.is, t) c.found_if-in-East.ensures

pub returns-in-West : goal.returns-in-West
unfolding step steps span
returns-in-West c =
    let k = c.args.from.level.k in
    let a = c.args.from.place in
    let i = inside_less k a.octant a.col (λ n. up a.row n) (λ m e. omega (arith, room (goal.at.returns-in-West c).Start)) in
    rw (c.requires, c.in-West.is, i, ← c.saturating_sub-in-West.ensures) c.found_if-in-West.ensures

pub returns-in-OverEquator : goal.returns-in-OverEquator
unfolding step steps across
returns-in-OverEquator c = simp (c.in-OverEquator.is, c.requires) c.found_if-in-OverEquator.ensures

pub returns-in-OverEast : goal.returns-in-OverEast
unfolding step steps
returns-in-OverEast c = rw (c.requires, c.in-OverEast.is, ← c.east.ensures, ← (rows_shifted c.args.from.level.k c.args.from.level.bounded)) c.found_if-in-OverEast.ensures

pub returns-in-OverWest : goal.returns-in-OverWest
unfolding step steps
returns-in-OverWest c = rw (c.requires, c.in-OverWest.is, ← c.west.ensures, ← (rows_shifted c.args.from.level.k c.args.from.level.bounded)) c.found_if-in-OverWest.ensures

pub overflow_add-end : goal.overflow_add-end
overflow_add-end c = omega (arith, room (goal.at.overflow_add-end c).Start)

pub overflow_add-end-2 : goal.overflow_add-end-2
overflow_add-end-2 c = omega (arith, room (goal.at.overflow_add-end-2 c).Start)

pub overflow_add-col : goal.overflow_add-col
overflow_add-col c = omega (arith, room (goal.at.overflow_add-col c).Start)
