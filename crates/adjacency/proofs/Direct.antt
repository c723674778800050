-- Direct neighbours (crate `step`) touch. Assumes nothing.
use Prim.Native.Nat.{ℕ, ◌+◌, ◌-◌, ◌^◌, ◌<◌}
use mathlib.Core.Path.{◌≡◌, refl, ap, ◌∙◌}
use mathlib.Core.Bool.{true}
use mathlib.Core.List.{[]}
use mathlib.Core.Option.{some}
use native.Mathlib.Omega.{arith}
use borrow.Author.Tests.{ne_eqb}
use lib.ListN.{get_or}
use Rattle.refusal.proofs.Tests.{clash}
use Rattle.cell.specs.Cell.{Triangle, up, down, span, Place, place, Occurs, cells}
use Rattle.cell.proofs.Laws.{place_occurs}
use Rattle.code.specs.Step.{across, east, west, code_to}
use Rattle.code.proofs.Laws.{Inner, up_t, up_l, up_r, up_e, up_w, down_t, down_l, down_r, down_e, down_w}
use Rattle.code.specs.Neighbours.{direct}
use Rattle.code.proofs.Laws.{Direct}
use Rattle.code.proofs.Laws.{Move, stay, over_t, over_e, over_w, step_move, code_step}
use Rattle.corner.specs.Corner.{corner, triangle_corners, corners, common, touches}
use Rattle.corner.proofs.Common.{common_symmetric, shared_common}
use Rattle.corner.proofs.Laws.{equator, meridian}

-- ---- direct neighbours have a point in common

-- corner i of the one is corner j of the other
at-corners :
    (k o o' : ℕ) (f f' : Triangle) (i j : ℕ)
    → i < 3 → j < 3 → get_or (triangle_corners k o f) i [] ≡ get_or (triangle_corners k o' f') j []
    → common (triangle_corners k o f) (triangle_corners k o' f') ≡ true
at-corners k o o' f f' = shared_common (triangle_corners k o f) (triangle_corners k o' f')

same_t : (k o r : ℕ) {t t' : ℕ} → t ≡ t' → corner k o t r ≡ corner k o t' r
same_t k o r e i = corner k o (e i) r

-- inside an octant, two cells of different kinds
inner_common : (k o : ℕ) {f : Triangle} {c : ℕ} {f' : Triangle} → Inner f c f' → direct c ≡ true → common (triangle_corners k o f) (triangle_corners k o f') ≡ true
unfolding triangle_corners direct
inner_common k o (up_t {a} {a'} {b} e) d = at-corners k o o (up a b) (down a' b) 0 0 (omega arith) (omega arith) (same_t k o b (omega arith))
inner_common k o (up_l {a} {b} {b'} e) d = at-corners k o o (up a b) (down a b') 0 1 (omega arith) (omega arith) (ap (corner k o a) (omega arith))
inner_common k o (up_r {a} {b}) d = at-corners k o o (up a b) (down a b) 1 0 (omega arith) (omega arith) refl
inner_common k o (up_e e) d = clash d refl
inner_common k o (up_w e) d = clash d refl
inner_common k o (down_t {a} {a'} {b} e) d = at-corners k o o (down a b) (up a' b) 0 0 (omega arith) (omega arith) (same_t k o b (omega arith))
inner_common k o (down_l {a} {b}) d = at-corners k o o (down a b) (up a b) 0 1 (omega arith) (omega arith) refl
inner_common k o (down_r {a} {b} {b'} e) d = at-corners k o o (down a b) (up a b') 1 0 (omega arith) (omega arith) (ap (corner k o a) (omega arith))
inner_common k o (down_e e) d = clash d refl
inner_common k o (down_w e) d = clash d refl

across_common : (k o o' a b : ℕ) → o' ≡ across o → a ≡ 0 → common (triangle_corners k o (up a b)) (triangle_corners k o' (up a b)) ≡ true
unfolding triangle_corners corner across
across_common k o o' a b x e = at-corners k o o' (up a b) (up a b) 0 0 (omega arith) (omega arith) (rw e (equator o o' (2 ^ k - 0 - b) b (omega arith)))

east_common : (k o o' a b b' : ℕ) → o < 8 → o' ≡ east o → a + b + 1 ≡ 2 ^ k → b' ≡ 0 → common (triangle_corners k o (up a b)) (triangle_corners k o' (up a b')) ≡ true
unfolding triangle_corners corner east
east_common k o o' a b b' h x e z =
    let l : 2 ^ k - a - (b + 1) ≡ 0 = omega arith in
    let m : 2 ^ k - a - 0 ≡ b + 1 = omega arith in
    at-corners k o o' (up a b) (up a b') 2 0 (omega arith) (omega arith) (rw (z, l, m) (meridian o o' (b + 1) a (omega arith) (omega arith)))

move_common : (k : ℕ) {p : Place} {c : ℕ} {r : Place} → Move k p c r → direct c ≡ true → Occurs k p → common (corners k p) (corners k r) ≡ true
unfolding east west span
move_common k (stay {o} i g) d h = inner_common k o i d
move_common k (over_t {o} {o'} {a} {b} x e) d h = across_common k o o' a b x e
move_common k (over_e {o} {o'} {a} {b} {b'} x e z) d h = east_common k o o' a b b' h.0 x e z
move_common k (over_w {o} {o'} {a} {b} {b'} x e z) d h =
    let y : o ≡ east o' = omega arith in
    let w : a + b' + 1 ≡ 2 ^ k = omega arith in
    let l : o' < 8 = omega arith in
    common_symmetric (triangle_corners k o (up a b)) (triangle_corners k o' (up a b')) ∙ east_common k o' o a b' b l y w e

-- a direct neighbour is another cell: of the other kind, or of another octant
kind_of : Triangle → ℕ
kind_of (up a b) = 0
kind_of (down a b) = 1

inner_apart : {f : Triangle} {c : ℕ} {f' : Triangle} → Inner f c f' → direct c ≡ true → kind_of f ≡ kind_of f' → ⊥
unfolding kind_of direct
inner_apart (up_t e) d s = omega arith
inner_apart (up_l e) d s = omega arith
inner_apart up_r d s = omega arith
inner_apart (up_e e) d s = clash d refl
inner_apart (up_w e) d s = clash d refl
inner_apart (down_t e) d s = omega arith
inner_apart down_l d s = omega arith
inner_apart (down_r e) d s = omega arith
inner_apart (down_e e) d s = clash d refl
inner_apart (down_w e) d s = clash d refl

move_apart : (k : ℕ) {p : Place} {c : ℕ} {r : Place} → Move k p c r → direct c ≡ true → p.0 < 8 → p.0 ≡ r.0 → kind_of p.1 ≡ kind_of r.1 → ⊥
unfolding across east west
move_apart k (stay i g) d h e f = inner_apart i d f
move_apart k (over_t x y) d h e f = omega arith
move_apart k (over_e x y z) d h e f = omega arith
move_apart k (over_w x y z) d h e f = omega arith

-- direct neighbours have a point in common
pub direct_common : (k : ℕ) (p r : Place) → Occurs k p → Direct k p r → common (corners k p) (corners k r) ≡ true
direct_common k p r h d = move_common k (step_move k p d.0 r d.2) d.1 h

-- direct neighbours touch
pub direct_touches : (k n m : ℕ) → n < cells k → Direct k (place k n) (place k m) → touches k n m ≡ true
unfolding touches
direct_touches k n m h d =
    let o = place_occurs k n h in
    let s = step_move k (place k n) d.0 (place k m) d.2 in
    let apart : n ≡ m → ⊥
    = λ e. move_apart k s d.1 o.0 (ap (λ (j : ℕ). (place k j).0) e) (ap (λ (j : ℕ). kind_of (place k j).1) e) in
    rw (ne_eqb n m apart) (direct_common k (place k n) (place k m) o d)

-- the code between two cells, where it is a direct one, joins cells that touch
pub code_touches : (k n m c : ℕ) → n < cells k → code_to k m (place k n) ≡ some c → direct c ≡ true → touches k n m ≡ true
code_touches k n m c h e d = direct_touches k n m h (c, d, (code_step k m (place k n) c (place_occurs k n h)).0 e)
