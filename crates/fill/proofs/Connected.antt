-- Direct steps join all cells of a level: east along the equator from up(0,0) of octant 0, over the equator, and in each octant by rows and columns.
-- So an empty border encloses nothing. Assumes nothing.
use Prim.Native.Nat.{ℕ, zero, suc, ◌+◌, ◌-◌, ◌^◌, ◌≤◌, ◌<◌}
use mathlib.Core.Path.{◌≡◌, refl, sym, ap, subst, ◌∙◌}
use mathlib.Core.Bool.{Bool, true, false, not}
use mathlib.Core.List.{List}
use mathlib.Core.Option.{some}
use native.Mathlib.Omega.{arith}
use lib.Dec.{ltb}
use lib.Pow.{pow_pos}
use borrow.Author.Tests.{ltb-true, ltb-false}
use Rattle.refusal.specs.Answer.{given, done}
use Rattle.refusal.proofs.Tests.{both}
use Rattle.bitset.specs.Bits.{marked}
use Rattle.cell.specs.Cell.{up, down, span, Place, place, number, Occurs, cells}
use Rattle.cell.proofs.Laws.{place_occurs, number_below, place_number, number_place}
use Rattle.code.specs.Step.{across, east, code_to}
use Rattle.code.specs.Neighbours.{direct, direct_code, is_direct}
use Rattle.code.proofs.Laws.{Move, stay, over_t, over_e, up_r, down_r, down_t, move_step, step_occurs, code_step}
use Rattle.fill.specs.Fill.{open_step, reachable, fill_call}
use Rattle.fill.proofs.Answers.{ready}
use Rattle.fill.proofs.Laws.{reachable_self, reachable_step, reachable_trans, reachable_back, fill_marks}

module _ (k : ℕ) (A : ℕ → Bool) (empty : (c : ℕ) → c < cells k → A c ≡ false) where
  abbrev start : Place
  start = (0, up 0 0)

  -- a place that up(0,0) of octant 0 reaches
  record Joined (p : Place) : Type 0 where
    occurs : Occurs k p
    reached : reachable k A (number k start) (number k p) ≡ true

  first : Occurs k start
  unfolding span
  first = (omega arith, pow_pos k)

  onward : {p r : Place} {c : ℕ} → direct c ≡ true → Move k p c r → Joined p → Joined r
  unfolding open_step is_direct direct_code
  onward {p} {r} {c} h m j =
      let s = move_step k m in
      let o = step_occurs k p c r j.occurs s in
      let x = number k p in
      let y = number k r in
      let hs = number_below k start first in
      let hx = number_below k p j.occurs in
      let hy = number_below k r o in
      let there = (code_step k y p c j.occurs).1 (rw (place_number k r o) s) in
      let code : code_to k y (place k x) ≡ some c = rw (place_number k p j.occurs) there in
      let opened = both (is_direct k x y) (not (A y)) (ap direct_code code ∙ h) (ap not (empty y hy)) in
      record {
        occurs = o;
        reached = reachable_step k A (number k start) x y hs hx hy j.reached opened;
      }

  -- in an octant: along a row, and up the west edge
  column : (o a b : ℕ) → Joined (o, up a 0) → a + b + 1 ≤ 2 ^ k → Joined (o, up a b)
  unfolding span direct
  column o a zero j h = j
  column o a (suc b) j h =
      let turned = onward {c = 2} refl (stay up_r (omega arith)) (column o a b j (omega arith)) in
      onward {c = 2} refl (stay (down_r refl) (omega arith)) turned

  row : (o a : ℕ) → Joined (o, up 0 0) → a + 1 ≤ 2 ^ k → Joined (o, up a 0)
  unfolding span direct
  row o zero j h = j
  row o (suc a) j h = onward {c = 0} refl (stay (down_t refl) (omega arith)) (onward {c = 2} refl (stay up_r (omega arith)) (row o a j (omega arith)))

  -- and from octant to octant
  eastward : (o : ℕ) → Joined (o, up 0 0) → Joined (east o, up 0 0)
  unfolding direct
  eastward o j = onward {c = 6} refl (over_e refl (omega (arith, pow_pos k)) refl) (column o 0 (2 ^ k - 1) j (omega (arith, pow_pos k)))

  southward : (o : ℕ) → Joined (o, up 0 0) → Joined (across o, up 0 0)
  unfolding direct
  southward o j = onward {c = 5} refl (over_t refl refl) j

  north : (o : ℕ) → o < 4 → Joined (o, up 0 0)
  unfolding east
  north zero h = record { occurs = first; reached = reachable_self k A (number k start) }
  north (suc o) h = subst (λ (i : ℕ). Joined (i, up 0 0)) (omega arith) (eastward o (north o (omega arith)))

  octants : (o : ℕ) → o < 8 → Joined (o, up 0 0)
  unfolding across
  octants o h = by (ltb o 4) refl
    where
      by : (t : Bool) → ltb o 4 ≡ t → Joined (o, up 0 0)
      by true e = north o (ltb-true o 4 e)
      by false e =
          let g : 4 ≤ o = ltb-false o 4 e in
          subst (λ (i : ℕ). Joined (i, up 0 0)) (omega arith) (southward (o - 4) (north (o - 4) (omega arith)))

  joined : (p : Place) → Occurs k p → Joined p
  unfolding span direct
  joined (o, up a b) h = column o a b (row o a (octants o h.0) (omega (arith, h.1))) h.1
  joined (o, down a b) h = onward {c = 2} refl (stay up_r h.1) (column o a b (row o a (octants o h.0) (omega (arith, h.1))) (omega (arith, h.1)))

  from_start : (c : ℕ) → c < cells k → reachable k A (number k start) c ≡ true
  from_start c h = rw (number_place k c) at (joined (place k c) (place_occurs k c h)).reached

  pub connected : (o c : ℕ) → o < cells k → c < cells k → reachable k A o c ≡ true
  connected o c ho hc =
      let s = number_below k start first in
      let back = reachable_back k A (number k start) o s ho (empty (number k start) s) (from_start o ho) in
      reachable_trans k A o (number k start) c ho hc back (from_start c hc)

-- filling with an empty border marks nothing
pub fill_empty : (k : ℕ) (a : List ℕ) (o : ℕ) (out : List ℕ) → (fill_call k a o out).0 ≡ given done →
    ((c : ℕ) → c < cells k → marked a c ≡ false) → (c : ℕ) → c < cells k → marked (fill_call k a o out).1 c ≡ false
fill_empty k a o out e empty c h = fill_marks k a o out e c h ∙ ap not (connected k (marked a) empty o c (ready k a o out (sym e)).cell h)
