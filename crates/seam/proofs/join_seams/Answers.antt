-- `join_seams` meets its contract: the four groups of pairs joined are the seams joined. Assumes nothing.
use Prim.Native.Nat.{ℕ, ◌^◌}
use mathlib.Core.Path.{◌≡◌, refl, ap, ◌∙◌}
use mathlib.Core.Bool.{Bool}
use borrow.Author.Tests.{le-leb}
use Rattle.cell.proofs.Answers.{given_level}
use Rattle.rows.specs.Rows.{lit}
use Rattle.seam.specs.declared.edges.Edge.{Edge}
use Rattle.seam.specs.declared.edges.Edge.TheVariants.{Meridian, Beside, Across, Equator}
use Rattle.seam.proofs.Closed.{group}
use Rattle.seam.proofs.Seams.{all_joined}
use Rattle.seam.proofs.join_seams.Goals as goal

-- a group of a level, joined
grouped : (d e : Edge) (m n : ℕ) (P Q R : ℕ → Bool) → (d ≡ e) × (m ≡ n) → R ≡ group d m Q → Q ≡ P → R ≡ group e n P
grouped d e m n P Q R g h p = h ∙ rw (g.0, g.1, p)

pub returns : goal.returns
returns c i =
    let l = c.in-Ok.level in
    let g = given_level _ _ _ c.in-Ok.ensures in
    let n = 2 ^ l.k in
    let f =
    grouped _ Equator _ n _ _ _ c.of_level-4.ensures c.join-4.ensures
    (grouped _ Across _ n _ _ _ c.of_level-3.ensures c.join-3.ensures
    (grouped _ Beside _ n _ _ _ c.of_level-2.ensures c.join-2.ensures (grouped _ Meridian _ n (lit c.args.points.now) _ _ c.of_level.ensures c.join.ensures refl))) in
    rw (g.1, le-leb l.k 8 l.bounded) (ap (λ (Q : ℕ → Bool). Q i) f ∙ all_joined l.k l.bounded (lit c.args.points.now) i)
