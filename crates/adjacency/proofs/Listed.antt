-- The list of the cells that touch: the ways find exactly its members, each once, and no more than twelve. Assumes nothing.
use Prim.Native.Nat.{ℕ, ◌+◌, ◌-◌, ◌^◌, ◌≤◌, ◌<◌}
use mathlib.Core.Path.{◌≡◌, refl, sym, ap, subst, ◌∙◌}
use mathlib.Core.Bool.{Bool, true, false, cond}
use mathlib.Core.Option.{none, some, none-ne-some}
use native.Mathlib.Omega.{arith}
use borrow.Author.Tests.{ne_eqb, eqb-false, not-true}
use lib.ListN.{length}
use Rattle.refusal.proofs.Tests.{parts}
use Rattle.cell.specs.Cell.{place, number, Occurs, cells}
use Rattle.cell.proofs.Laws.{place_occurs, number_below, place_number, number_place}
use Rattle.corner.specs.Corner.{touches}
use Rattle.adjacency.specs.declared.Cube.{Cube}
use Rattle.adjacency.specs.Touch.{touching}
use Rattle.adjacency.specs.Cube.{sum, cube_of, place_of_cube, moved_cube, touching_way, cell_along}
use Rattle.adjacency.proofs.Cubes.{room_small, cube_occurs, cube_place}
use Rattle.adjacency.proofs.Ways.{Lands, way_lands, lands-way, ways_told, room_is}
use Rattle.adjacency.proofs.Counts.{passes, all_ways, passes_below, passes_same}
use Rattle.adjacency.proofs.Collect.{is_found, collect, collect_laws, collect_rising}

-- ---- the cell along a way

-- a way that is accepted, and the cell it leads to
pub record AlongTold (k : ℕ) (c : Cube) (w m : ℕ) : Type 0 where
  pub test : touching_way (2 ^ k - sum c) c w ≡ true
  pub is : number k (place_of_cube k (moved_cube w c)) ≡ m

pub along_way : (k : ℕ) (c : Cube) (w m : ℕ) → cell_along k c w ≡ some m → AlongTold k c w m
unfolding cell_along
along_way k c w m e = go (touching_way (2 ^ k - sum c) c w) refl e
  where
    go : (b : Bool) → touching_way (2 ^ k - sum c) c w ≡ b → cond b (some (number k (place_of_cube k (moved_cube w c)))) none ≡ some m → AlongTold k c w m
    go true t e = record { test = t; is = cc }
    go false t e = absurd (none-ne-some m e)

module _ (k n : ℕ) (hn : n < cells k) where
  pub here : Occurs k (place k n)
  here = place_occurs k n hn

  -- the place of a way's cell
  pub there :
      (w m : ℕ) → w < 27 → cell_along k (cube_of k (place k n)) w ≡ some m
      → (place k m ≡ place_of_cube k (moved_cube w (cube_of k (place k n)))) × (m < cells k) × Lands k (place k n) w
  there w m h e =
      let a = along_way k (cube_of k (place k n)) w m e in
      let l = way_lands k (place k n) here w h a.test in
      let o = cube_occurs k _ l.spanned in
      (ap (place k) (sym a.is) ∙ place_number k _ o, subst (λ (j : ℕ). j < cells k) a.is (number_below k _ o), l)

  pub way_touches : (w m : ℕ) → w < 27 → cell_along k (cube_of k (place k n)) w ≡ some m → touches k n m ≡ true
  unfolding touches
  way_touches w m h e =
      let t = there w m h e in
      let apart : n ≡ m → ⊥ = λ d. t.2.other (sym t.0 ∙ ap (place k) (sym d)) in
      rw (ne_eqb n m apart, t.0) t.2.meet

  pub touches_way : (m : ℕ) → m < cells k → touches k n m ≡ true → (w : ℕ) × (w < 27) × (cell_along k (cube_of k (place k n)) w ≡ some m)
  unfolding touches cell_along
  touches_way m hm e =
      let a = parts _ _ e in
      let apart : place k n ≡ place k m → ⊥ = λ d. eqb-false n m (not-true _ a.0) (sym (number_place k n) ∙ ap (number k) d ∙ number_place k m) in
      let l = lands-way k (place k n) (place k m) here (place_occurs k m hm) apart a.1 in
      (l.0, l.1, rw (l.2, l.3, number_place k m))

  pub way_once : (w v m : ℕ) → w < 27 → v < 27 → cell_along k (cube_of k (place k n)) w ≡ some m → cell_along k (cube_of k (place k n)) v ≡ some m → w ≡ v
  way_once w v m hw hv e f =
      let s = there w m hw e in
      let t = there v m hv f in
      ways_told (cube_of k (place k n)) w v hw hv (sym (cube_place k _ s.2.spanned) ∙ ap (cube_of k) (sym s.0 ∙ t.0) ∙ cube_place k _ t.2.spanned)

  -- ---- how many ways are accepted

  -- a way finds a cell where it is accepted
  pub finds : (w : ℕ) → is_found (cell_along k (cube_of k (place k n)) w) ≡ touching_way (2 ^ k - sum (cube_of k (place k n))) (cube_of k (place k n)) w
  unfolding cell_along is_found
  finds w = go (touching_way (2 ^ k - sum (cube_of k (place k n))) (cube_of k (place k n)) w)
    where
      go : (b : Bool) → is_found (cond b (some (number k (place_of_cube k (moved_cube w (cube_of k (place k n)))))) none) ≡ b
      go true = refl
      go false = refl

  -- no more than 12 ways are accepted
  pub few : (w : ℕ) → w ≤ 27 → passes (touching_way (2 ^ k - sum (cube_of k (place k n))) (cube_of k (place k n))) w ≤ 12
  few w h =
      let c = cube_of k (place k n) in
      let r = room_small (place k n).1 in
      let e = room_is k (place k n) here in
      let j : w + (27 - w) ≡ 27 = omega arith in
      omega (arith, rw j at (passes_below (touching_way (2 ^ k - sum c) c) w (27 - w)), all_ways (2 ^ k - sum c) c (omega arith) (omega arith))

  -- ---- the whole list

  -- the ways find the cells that touch
  ways_touching : collect (cell_along k (cube_of k (place k n))) 27 ≡ touching k n
  unfolding touching
  ways_touching =
      collect_rising (cell_along k (cube_of k (place k n))) 27 way_once (touches k n) (cells k)
      (λ w m h e. ((there w m h e).1, way_touches w m h e))
      touches_way

  -- how many they are: the accepted ways
  pub touching_ways : length (touching k n) ≡ passes (touching_way (2 ^ k - sum (cube_of k (place k n))) (cube_of k (place k n))) 27
  touching_ways =
      let c = cube_of k (place k n) in
      sym (ap length ways_touching)
      ∙ (collect_laws (cell_along k c) 27 way_once 27 (omega arith)).count
      ∙ passes_same (λ w. is_found (cell_along k c w)) (touching_way (2 ^ k - sum c) c) finds 27

  pub touching_few : length (touching k n) ≤ 12
  touching_few = omega (arith, touching_ways, few 27 (omega arith))
