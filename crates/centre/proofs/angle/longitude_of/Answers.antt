-- `longitude_of` meets its contract: the sum is in the range of longitudes, and so fits. Assumes nothing.
use Prim.Native.Nat.{◌^◌, ◌<◌}
use mathlib.Core.Path.{◌≡◌, ap, ◌∙◌}
use native.Mathlib.Omega.{arith}
use lib.IntN.{ℤ, pos, ◌+ℤ◌}
use lib.Signed.{mag}
use mir.Syntax.{w32}
use mir.Val.{to_z, of_z}
use mir.ValLaws.{to_z_pos}
use Rattle.position.specs.Position.{beginning}
use Rattle.position.proofs.Signed.{same_number, inside_fits}
use Rattle.position.proofs.Laws.{beginning_inside}
use Rattle.centre.proofs.angle.longitude_of.Goals as goal
use Rattle.centre.proofs.angle.longitude_of.Goals.{After-beginning_of}

-- the sum of the two numbers as the code reads them
sum : (c : After-beginning_of) →
    let a = c.args in
    to_z w32 (of_z w32 c.beginning_of.result) +ℤ to_z w32 a.m ≡ beginning a.octant +ℤ pos a.m
sum c = rw (same_number c.beginning_of.result c.beginning_of.type_inv, c.beginning_of.ensures, to_z_pos w32 c.args.m (omega arith))

fits : (c : After-beginning_of) → mag (beginning c.args.octant +ℤ pos c.args.m) < 2 ^ 31
fits c = let a = c.args in inside_fits (beginning a.octant +ℤ pos a.m) (beginning_inside a.octant a.m c.requires)

pub returns : goal.returns
returns c = ap (λ (z : ℤ). to_z w32 (of_z w32 z)) (sum c) ∙ same_number (beginning c.args.octant +ℤ pos c.args.m) (fits c)

pub overflow_add-result : goal.overflow_add-result
overflow_add-result c = rw (sum c) (record { sfits = fits c })
