-- The slice's length is the mask's, as the code shifts it, or it is not.
use Prim.Native.Nat.{◌^◌}
use mathlib.Core.Path.{◌≡◌}
use native.Mathlib.Omega.{arith}
use borrow.Author.Tests.{le-ltb, eq-eqb, ne_eqb}
use lib.ListN.{length}
use Rattle.cell.proofs.Answers.{given_level}
use Rattle.mask.specs.Mask.{max_mask_level}
use Rattle.mask.proofs.Laws.{level_shifted}
use Rattle.mask.proofs.is_mask.Goals as goal

pub returns-then-mask-level : goal.returns-then-mask-level
returns-then-mask-level c =
    let l = c.in_ok-level.level in
    let g = given_level _ _ _ c.in_ok-level.ensures in
    let n : length c.args.mask.now ≡ 4 ^ l.k → ⊥ = λ e. omega (arith, level_shifted 64 1 l.k l.bounded (omega arith)) in
    rw g.1 (simp (le-ltb max_mask_level l.k l.bounded, ne_eqb _ _ n))

pub returns : goal.returns
returns c =
    let l = c.in_ok-level.level in
    let g = given_level _ _ _ c.in_ok-level.ensures in
    let e : length c.args.mask.now ≡ 4 ^ l.k = omega (arith, level_shifted 64 1 l.k l.bounded (omega arith)) in
    rw g.1 (simp (le-ltb max_mask_level l.k l.bounded, eq-eqb _ _ e))
