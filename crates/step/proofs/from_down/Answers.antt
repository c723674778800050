-- `from_down` meets its contract: each arm gives the table's entry for its code. From a down cell that occurs t, l and r are always inside the
-- octant.
-- Assumes nothing.
use Prim.Native.Nat.{◌+◌, ◌≤◌, ◌^◌}
use mathlib.Core.Logic.{inl, inr}
use native.Mathlib.Omega.{arith}
use borrow.Author.Tests.{le-leb}
use Rattle.cell.specs.Cell.{span, down, max_level}
use Rattle.code.specs.Step.{step, steps}
use Rattle.step.proofs.Body.{rows_bound, inside_less, inside_test}
use Rattle.step.proofs.from_down.Goals as goal
use Rattle.step.proofs.from_down.Goals.{Start}

-- row and column end inside the octant, and so far below what a number holds
room : (c : Start) → (c.args.from.place.row + c.args.from.place.col + 2 ≤ 2 ^ c.args.from.level.k) × (2 ^ c.args.from.level.k ≤ 2 ^ max_level)
unfolding span
room c = (rw c.requires at c.args.from.occurs.1, rows_bound c.args.from.level.k c.args.from.level.bounded)

pub returns-in-Top : goal.returns-in-Top
unfolding step steps span
returns-in-Top c =
    let k = c.args.from.level.k in
    let a = c.args.from.place in
    let t = le-leb (a.row + 1 + a.col + 1) (2 ^ k) (omega (arith, room (goal.at.returns-in-Top c).Start)) in
    rw (c.requires, c.in-Top.is, t) c.found_if.ensures

pub returns-in-Left : goal.returns-in-Left
unfolding step steps span
returns-in-Left c =
    let k = c.args.from.level.k in
    let a = c.args.from.place in
    let t = le-leb (a.row + a.col + 1) (2 ^ k) (omega (arith, room (goal.at.returns-in-Left c).Start)) in
    rw (c.requires, c.in-Left.is, t) c.found_if-in-Left.ensures

pub returns-in-Right : goal.returns-in-Right
unfolding step steps span
returns-in-Right c =
    let k = c.args.from.level.k in
    let a = c.args.from.place in
    let t = le-leb (a.row + (a.col + 1) + 1) (2 ^ k) (omega (arith, room (goal.at.returns-in-Right c).Start)) in
    rw (c.requires, c.in-Right.is, t) c.found_if-in-Right.ensures

pub returns-in-East : goal.returns-in-East
unfolding step steps span
returns-in-East c =
    let k = c.args.from.level.k in
    let a = c.args.from.place in
    let t = inside_test k (a.row + a.col + 2) (a.row + (a.col + 1) + 2) c.args.from.level.bounded (omega arith) in
    rw (c.requires, c.in-East.is, t) c.found_if-in-East.ensures

pub returns-in-West : goal.returns-in-West
unfolding step steps span
returns-in-West c =
    let k = c.args.from.level.k in
    let a = c.args.from.place in
    let i = inside_less k a.octant a.col (λ n. down a.row n) (λ m e. omega (arith, room (goal.at.returns-in-West c).Start)) in
    rw (c.requires, c.in-West.is, i, ← c.saturating_sub.ensures) c.found_if-in-West.ensures

pub overflow_add-end : goal.overflow_add-end
overflow_add-end c = omega (arith, room (goal.at.overflow_add-end c).Start)

pub overflow_add-end-2 : goal.overflow_add-end-2
overflow_add-end-2 c = omega (arith, room (goal.at.overflow_add-end-2 c).Start)

pub overflow_add-row : goal.overflow_add-row
overflow_add-row c = omega (arith, room (goal.at.overflow_add-row c).Start)

pub overflow_add-col : goal.overflow_add-col
overflow_add-col c = omega (arith, room (goal.at.overflow_add-col c).Start)

pub overflow_add-col-in-East : goal.overflow_add-col-in-East
overflow_add-col-in-East c = omega (arith, room (goal.at.overflow_add-col-in-East c).Start)

pub returns-in-OverEquator : goal.returns-in-OverEquator
unfolding step steps
returns-in-OverEquator c = elim c.in-OverEquator.is [ inl e ↦ simp (e, c.requires) | inr (inl e) ↦ simp (e, c.requires) | inr (inr e) ↦ simp (e, c.requires) ]
