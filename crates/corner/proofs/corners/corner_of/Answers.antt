-- `corner_of` meets its contract: its three numbers are the definition's. Assumes nothing.
use Prim.Native.Nat.{◌+◌, ◌-◌, ◌*◌, ◌%◌, ◌^◌, ◌≤◌}
use mathlib.Core.Path.{◌≡◌, ◌∙◌}
use native.Mathlib.Omega.{arith}
use lib.Dec.{leb}
use lib.IntN.{pos}
use lib.Pow.{pow_mono}
use Rattle.cell.specs.Cell.{max_level}
use Rattle.cell.proofs.Laws.{shifted}
use Rattle.corner.specs.Corner.{minus, polar, point_in, corner}
use Rattle.corner.proofs.Signed.{held, held_first}
use Rattle.corner.proofs.Common.{three}
use Rattle.corner.proofs.Octants.{second_first, first_below}
use Rattle.corner.proofs.corners.corner_of.Goals as goal
use Rattle.corner.proofs.corners.corner_of.Goals.{Start}

-- N as the code shifts it, and its bound
rows : (c : Start) → (1 * 2 ^ c.args.level.k % 2 ^ 32 ≡ 2 ^ c.args.level.k) × (2 ^ c.args.level.k ≤ 2 ^ max_level)
rows c = (shifted 32 c.args.level.k (omega (arith, c.args.level.bounded)), pow_mono {i = c.args.level.k} {j = max_level} c.args.level.bounded)

pub signed-requires : goal.signed-requires
signed-requires c =
    let a = c.args in
    let n = rows (goal.at.signed-requires c).Start in
    rw (c.first_of.ensures, n.0) (first_below a.octant (2 ^ a.level.k - a.t - a.r) a.r (2 ^ 31) (omega arith) (omega arith))

pub signed-requires-2 : goal.signed-requires-2
signed-requires-2 c =
    let a = c.args in
    let n = rows (goal.at.signed-requires-2 c).Start in
    rw (c.first_of-2.ensures, n.0) (first_below (a.octant + 3) (2 ^ a.level.k - a.t - a.r) a.r (2 ^ 31) (omega arith) (omega arith))

pub returns : goal.returns
unfolding corner point_in polar
returns c =
    let a = c.args in
    let n = rows (goal.at.returns c).Start in
    let l = 2 ^ a.level.k - a.t - a.r in
    three
    (held_first a.octant l a.r (omega arith) (omega arith) _ (rw n.0 at c.first_of.ensures) _ c.signed.ensures)
    (held_first (a.octant + 3) l a.r (omega arith) (omega arith) _ (rw n.0 at c.first_of-2.ensures) _ c.signed-2.ensures
    ∙ second_first pos minus l a.r a.octant)
    (held (leb 4 a.octant) a.t (omega arith) _ c.signed-3.ensures)
