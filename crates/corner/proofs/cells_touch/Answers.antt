-- `cells_touch` meets its contract: refused as `place_of` refuses the one cell or the other, and otherwise decided by the corners. Assumes nothing.
use Prim.Native.Nat.{ℕ}
use mathlib.Core.Path.{◌≡◌, sym, ap, ap₂, ◌∙◌}
use mathlib.Core.Bool.{Bool, false}
use mathlib.Core.List.{[], ◌∷◌}
use borrow.Author.Tests.{eq-eqb, ne_eqb, le-ltb, lt-leb}
use Rattle.refusal.specs.Answer.{given}
use Rattle.refusal.specs.Tests.{bad_level}
use Rattle.refusal.proofs.Answers.{gives}
use Rattle.cell.specs.Cell.{Place, place_of, max_level, cells, bad_cell}
use Rattle.cell.proofs.Answers.{Given, given_site}
use Rattle.corner.specs.Corner.{corners, common, touches, touch_call}
use Rattle.corner.proofs.Laws.{points_corners}
use Rattle.corner.proofs.cells_touch.Goals as goal

-- ---- the call's answers by what `place_of` said of the two cells
module _ (k a b : ℕ) (p : Place) (A : Given k a p) where
  module _ (q : Place) (B : Given k b q) where
    both-given : (t : Bool) → t ≡ touches k a b → given t ≡ touch_call k a b
    both-given t e =
        ap given e
        ∙ gives (bad_level max_level k ∷ bad_cell k a ∷ bad_cell k b ∷ []) (touches k a b)
        (le-ltb max_level k A.level, (lt-leb (cells k) a A.below, (lt-leb (cells k) b B.below, tt)))

    -- a cell does not touch itself
    itself : a ≡ b → given false ≡ touch_call k a b
    unfolding touches
    itself e = both-given false (rw (eq-eqb a b e))

    -- of two cells their corners decide
    by-corners : (t : Bool) → (a ≡ b → ⊥) → t ≡ common (corners k p) (corners k q) → given t ≡ touch_call k a b
    unfolding touches
    by-corners t n e = both-given t (rw (ne_eqb a b n, A.at, B.at) e)

-- ---- the goals
pub have_common-requires : goal.have_common-requires
have_common-requires c =
    rw (c.corners_of.ensures, c.corners_of-then-a-b.ensures)
    (points_corners c.in_ok-p.p.level.k (place_of c.in_ok-p.p.place), points_corners c.in_ok-q.q.level.k (place_of c.in_ok-q.q.place))

pub returns-then-a-b : goal.returns-then-a-b
returns-then-a-b c =
    let a = c.args in
    let A = given_site a.level a.a _ (place_of c.in_ok-p.p.place) c.in_ok-p.ensures in
    let B = given_site a.level a.b _ (place_of c.in_ok-q.q.place) c.in_ok-q.ensures in
    by-corners a.level a.a a.b _ A.1 _ B.1 _ c.if-a-b.true
    (c.have_common.ensures ∙ rw A.0 (ap₂ common c.corners_of.ensures (c.corners_of-then-a-b.ensures ∙ ap (λ k. corners k (place_of c.in_ok-q.q.place)) (sym B.0 ∙ A.0))))

pub returns-else-a-b : goal.returns-else-a-b
returns-else-a-b c =
    let a = c.args in
    let A = given_site a.level a.a _ (place_of c.in_ok-p.p.place) c.in_ok-p.ensures in
    let B = given_site a.level a.b _ (place_of c.in_ok-q.q.place) c.in_ok-q.ensures in
    rw (eq-eqb a.a a.b c.if-a-b.false) (itself a.level a.a a.b _ A.1 _ B.1 c.if-a-b.false)
