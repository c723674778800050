-- Two different cells have a point in common exactly along one of the 27 ways from the cube of the one to that of the other. Assumes nothing.
use Prim.Native.Nat.{ℕ, zero, suc, ◌+◌, ◌*◌, ◌-◌, ◌/◌, ◌%◌, ◌^◌, ◌≤◌, ◌<◌, min}
use mathlib.Core.Path.{◌≡◌, refl, sym, ap, ◌∙◌}
use mathlib.Core.Bool.{Bool, true, false, not}
use native.Mathlib.Nat.{div-div-eq-div-mul}
use native.Mathlib.Omega.{arith}
use borrow.Author.Tests.{le-leb, leb-true, ne_eqb, eqb-false, not-true}
use lib.Dec.{eqb}
use mathlib.Core.Option.{none, some}
use Rattle.refusal.proofs.Tests.{parts, both, clash}
use Rattle.cell.specs.Cell.{Place, Occurs, number}
use Rattle.corner.specs.Corner.{corners, common, side_of}
use Rattle.corner.proofs.Common.{three, shared_common, common_meeting, same_coordinates}
use Rattle.corner.specs.declared.Side.{Side}
use Rattle.adjacency.specs.declared.Cube.{Cube}
use Rattle.adjacency.specs.Cube.{sum, inward, moved, moved_cube, least, most, taken, sums_fit, touching_way, cube_of, place_of_cube, cell_along}
use Rattle.adjacency.proofs.Sides.{WayBetween, common_end, SharedEnd, along, base_moved}
use Rattle.adjacency.proofs.Cubes.{room, room_small, sum_cube, place_cube, Spanned, cube_occurs, cube_place}
use Rattle.adjacency.proofs.Vertices.{vertex, IsVertex, corner_vertex, vertex-corner}

-- ---- ways of the three axes

-- three ways as one number
unfoldable pub three_ways : ℕ → ℕ → ℕ → ℕ
three_ways a b c = a + 3 * b + 9 * c

pub record AxesOf (a b c : ℕ) : Type 0 where
  pub x : three_ways a b c % 3 ≡ a
  pub y : three_ways a b c / 3 % 3 ≡ b
  pub z : three_ways a b c / 9 ≡ c
  pub low : three_ways a b c < 27

pub axes : (a b c : ℕ) → a ≤ 2 → b ≤ 2 → c ≤ 2 → AxesOf a b c
unfolding three_ways
axes a b c ha hb hc = record { x = omega arith; y = omega arith; z = omega arith; low = omega arith }

-- the sums that decide whether a way leads to a touching cell
abbrev lo : ℕ → ℕ
lo w = least (w % 3) + least (w / 3 % 3) + least (w / 9)

abbrev hi : ℕ → ℕ
hi w = most (w % 3) + most (w / 3 % 3) + most (w / 9)

abbrev off : Cube → ℕ → ℕ
off c w = taken (w % 3) c.x.base + taken (w / 3 % 3) c.y.base + taken (w / 9) c.z.base

record Fits (r l h o : ℕ) : Type 0 where
  above : l ≤ r
  below : r ≤ h
  first : l + 1 ≤ r + o
  last : r + o ≤ l + 2

fit_true : (r l h o : ℕ) → Fits r l h o → sums_fit r l h o ≡ true
unfolding sums_fit
fit_true r l h o d = both _ _ (both _ _ (both _ _ (le-leb _ _ d.above) (le-leb _ _ d.below)) (le-leb _ _ d.first)) (le-leb _ _ d.last)

true_fit : (r l h o : ℕ) → sums_fit r l h o ≡ true → Fits r l h o
unfolding sums_fit
true_fit r l h o e =
    let a = parts _ _ e in
    let b = parts _ _ a.0 in
    let c = parts _ _ b.0 in
    record { above = leb-true _ _ c.0; below = leb-true _ _ c.1; first = leb-true _ _ b.1; last = leb-true _ _ a.1 }

-- the sum of the bases after a way
sum_moved : (c : Cube) (w : ℕ) → w < 27 → sum (moved_cube w c) + off c w ≡ sum c + lo w
unfolding moved_cube
sum_moved c w h = omega (arith, base_moved c.x (w % 3) (omega arith), base_moved c.y (w / 3 % 3) (omega arith), base_moved c.z (w / 9) (omega arith))

-- ---- from a common point to the way

record WayTo (r : ℕ) (c d : Cube) : Type 0 where
  way : ℕ
  low : way < 27
  to : d ≡ moved_cube way c
  test : sums_fit r (lo way) (hi way) (off c way) ≡ true

-- the ways of the three axes, with the sums that the two cells have
way-by-axes :
    (c d : Cube) (r r' u v w : ℕ) → sum c + r ≡ sum d + r' → (1 ≤ r') × (r' ≤ 2) → u + v + w ≡ r → WayBetween c.x d.x u → WayBetween c.y d.y v
    → WayBetween c.z d.z w → WayTo r c d
unfolding moved_cube
way-by-axes c d r r' u v w sums h total x y z =
    let g = axes x.way y.way z.way x.small y.small z.small in
    let n = three_ways x.way y.way z.way in
    let ex = x.to ∙ ap (λ (a : ℕ). moved a c.x) (sym g.x) in
    let ey = y.to ∙ ap (λ (a : ℕ). moved a c.y) (sym g.y) in
    let ez = z.to ∙ ap (λ (a : ℕ). moved a c.z) (sym g.z) in
    let to : d ≡ moved_cube n c = λ i. record { x = ex i; y = ey i; z = ez i } in
    let s = sum_moved c n g.low in
    let t : sum d ≡ sum (moved_cube n c) = ap sum to in
    let lx = ap least g.x in
    let ly = ap least g.y in
    let lz = ap least g.z in
    let mx = ap most g.x in
    let my = ap most g.y in
    let mz = ap most g.z in
    record {
      way = n;
      low = g.low;
      to = to;
      test = fit_true r (lo n) (hi n) (off c n) (record {
        above = omega (arith, x.low, y.low, z.low);
        below = omega (arith, x.high, y.high, z.high);
        first = omega arith;
        last = omega arith;
      });
    }

way_to : (k : ℕ) (p q : Place) → Occurs k p → Occurs k q → common (corners k p) (corners k q) ≡ true → WayTo (room p.1) (cube_of k p) (cube_of k q)
way_to k p q hp hq e =
    let m = common_meeting (corners k p) (corners k q) e in
    let a = corner_vertex k p hp m.i m.low.0 in
    let b = corner_vertex k q hq m.j m.low.1 in
    let c = cube_of k p in
    let d = cube_of k q in
    let s = same_coordinates (vertex c a.u a.v a.w) (vertex d b.u b.v b.w) (rw (a.is, b.is) at m.meet) in
    way-by-axes c d (room p.1) (room q.1) a.u a.v a.w (sum_cube k p hp ∙ sym (sum_cube k q hq)) (room_small q.1) a.total
    (common_end c.x d.x a.u b.u a.small.0 b.small.0 (s 0 (omega arith)))
    (common_end c.y d.y a.v b.v a.small.1 b.small.1 (s 1 (omega arith)))
    (common_end c.z d.z a.w b.w a.small.2 b.small.2 (s 2 (omega arith)))

-- ---- from a way to a common point

-- three numbers within bounds that add up to s
record Between (a b c a' b' c' s : ℕ) : Type 0 where
  u : ℕ
  v : ℕ
  w : ℕ
  first : (a ≤ u) × (u ≤ a')
  second : (b ≤ v) × (v ≤ b')
  third : (c ≤ w) × (w ≤ c')
  total : u + v + w ≡ s

-- first two
pair : (a b a' b' s : ℕ) → a ≤ a' → b ≤ b' → a + b ≤ s → s ≤ a' + b' → (u : ℕ) × (v : ℕ) × (a ≤ u) × (u ≤ a') × (b ≤ v) × (v ≤ b') × (u + v ≡ s)
pair a b a' b' s ha hb l h = let u = min a' (s - b) in (u, s - u, omega arith, omega arith, omega arith, omega arith, omega arith)

chosen_between : (a b c a' b' c' s : ℕ) → a ≤ a' → b ≤ b' → c ≤ c' → a + b + c ≤ s → s ≤ a' + b' + c' → Between a b c a' b' c' s
chosen_between a b c a' b' c' s ha hb hc l h =
    let f = pair a (b + c) a' (b' + c') s ha (omega arith) (omega arith) (omega arith) in
    let g = pair b c b' c' f.1 hb hc f.4 f.5 in
    record { u = f.0; v = g.0; w = g.1; first = (f.2, f.3); second = (g.2, g.3); third = (g.4, g.5); total = omega (arith, f.6, g.6) }

least_most : (w : ℕ) → w ≤ 2 → (least w ≤ most w) × (most w ≤ 1)
unfolding least most
least_most w h = omega arith

-- a vertex of a cube that the next cube has too is a vertex of the next cell's
arrived :
    (k : ℕ) (q : Place) → Occurs k q → (c d : Cube) (r u v w : ℕ) → cube_of k q ≡ d → sum c + r ≡ 2 ^ k → u + v + w ≡ r
    → SharedEnd c.x d.x u → SharedEnd c.y d.y v → SharedEnd c.z d.z w
    → IsVertex (cube_of k q) (room q.1) (vertex c u v w)
arrived k q hq c d r u v w same sums total x y z = record {
  u = x.unit;
  v = y.unit;
  w = z.unit;
  small = (x.small, y.small, z.small);
  total = omega (arith, ap sum same, sum_cube k q hq, x.sizes, y.sizes, z.sizes);
  is = three x.ends y.ends z.ends ∙ ap (λ (b : Cube). vertex b x.unit y.unit z.unit) (sym same);
}

module _ (k : ℕ) (p : Place) (hp : Occurs k p) (n : ℕ) (hn : n < 27) (e : sums_fit (room p.1) (lo n) (hi n) (off (cube_of k p) n) ≡ true) where
  way_spanned : Spanned k (moved_cube n (cube_of k p))
  way_spanned = omega (arith, (true_fit _ _ _ _ e).first, (true_fit _ _ _ _ e).last, sum_moved (cube_of k p) n hn, sum_cube k p hp)

  way_common : common (corners k p) (corners k (place_of_cube k (moved_cube n (cube_of k p)))) ≡ true
  unfolding moved_cube
  way_common =
      let c = cube_of k p in
      let d = moved_cube n c in
      let q = place_of_cube k d in
      let hq = cube_occurs k d way_spanned in
      let same = cube_place k d way_spanned in
      let t = true_fit _ _ _ _ e in
      let mx = least_most (n % 3) (omega arith) in
      let my = least_most (n / 3 % 3) (omega arith) in
      let mz = least_most (n / 9) (omega arith) in
      let g = chosen_between _ _ _ _ _ _ (room p.1) mx.0 my.0 mz.0 t.above t.below in
      let x = along c.x (n % 3) g.u (omega arith) g.first.0 g.first.1 in
      let y = along c.y (n / 3 % 3) g.v (omega arith) g.second.0 g.second.1 in
      let z = along c.z (n / 9) g.w (omega arith) g.third.0 g.third.1 in
      let v = vertex c g.u g.v g.w in
      let small : (g.u ≤ 1) × (g.v ≤ 1) × (g.w ≤ 1) = omega (arith, g.first, g.second, g.third, mx, my, mz) in
      let here : IsVertex c (room p.1) v = record { u = g.u; v = g.v; w = g.w; small = small; total = g.total; is = refl } in
      let there : IsVertex (cube_of k q) (room q.1) v
      = arrived k q hq c d (room p.1) g.u g.v g.w same (sum_cube k p hp) g.total x y z in
      let i = vertex-corner k p hp v here in
      let j = vertex-corner k q hq v there in
      shared_common (corners k p) (corners k q) i.0 j.0 i.1 j.1 (i.2 ∙ sym j.2)

-- ---- different ways lead to different cubes

not_self : (n : Bool) → not n ≡ n → ⊥
not_self true e = clash e refl
not_self false e = clash refl e

inward_moves : (n : Bool) (b : ℕ) → inward n b ≡ side_of n b → ⊥
unfolding inward
inward_moves n zero e = not_self n (ap (λ (s : Side). s.negative) e)
inward_moves n (suc b) e = let d : b ≡ suc b = ap (λ (s : Side). s.base) e in omega arith

inward_shrinks : (n : Bool) (b : ℕ) → (inward n b).base ≤ b
unfolding inward
inward_shrinks n zero = omega arith
inward_shrinks n (suc b) = omega arith

pub way_told : (a : Side) (w v : ℕ) → w ≤ 2 → v ≤ 2 → moved w a ≡ moved v a → w ≡ v
unfolding moved
way_told a zero zero hw hv e = refl
way_told a zero (suc zero) hw hv e = absurd (inward_moves a.negative a.base e)
way_told a zero (suc (suc v)) hw hv e = absurd (let d = ap (λ (s : Side). s.base) e in omega (arith, inward_shrinks a.negative a.base))
way_told a (suc zero) zero hw hv e = absurd (inward_moves a.negative a.base (sym e))
way_told a (suc zero) (suc zero) hw hv e = refl
way_told a (suc zero) (suc (suc v)) hw hv e = absurd (let d = ap (λ (s : Side). s.base) e in omega arith)
way_told a (suc (suc w)) zero hw hv e = absurd (let d = ap (λ (s : Side). s.base) e in omega (arith, inward_shrinks a.negative a.base))
way_told a (suc (suc w)) (suc zero) hw hv e = absurd (let d = ap (λ (s : Side). s.base) e in omega arith)
way_told a (suc (suc w)) (suc (suc v)) hw hv e = omega arith

same_three : (a b : ℕ) → a % 3 ≡ b % 3 → a / 3 ≡ b / 3 → a ≡ b
same_three a b p q = omega arith

pub ways_told : (c : Cube) (w v : ℕ) → w < 27 → v < 27 → moved_cube w c ≡ moved_cube v c → w ≡ v
unfolding moved_cube
ways_told c w v hw hv e =
    let x = way_told c.x (w % 3) (v % 3) (omega arith) (omega arith) (ap (λ (b : Cube). b.x) e) in
    let y = way_told c.y (w / 3 % 3) (v / 3 % 3) (omega arith) (omega arith) (ap (λ (b : Cube). b.y) e) in
    let z = way_told c.z (w / 9) (v / 9) (omega arith) (omega arith) (ap (λ (b : Cube). b.z) e) in
    same_three w v x (same_three (w / 3) (v / 3) y (div-div-eq-div-mul w 3 3 ∙ z ∙ sym (div-div-eq-div-mul v 3 3)))

-- way 13 stays
stays : (c : Cube) → moved_cube 13 c ≡ c
unfolding moved_cube moved
stays c = refl

-- ---- the ways that lead to a touching cell

pub room_is : (k : ℕ) (p : Place) → Occurs k p → 2 ^ k - sum (cube_of k p) ≡ room p.1
room_is k p h = omega (arith, sum_cube k p h)

-- such a way leads to another cell of the level that has a point in common
pub record Lands (k : ℕ) (p : Place) (w : ℕ) : Type 0 where
  pub spanned : Spanned k (moved_cube w (cube_of k p))
  pub meet : common (corners k p) (corners k (place_of_cube k (moved_cube w (cube_of k p)))) ≡ true
  pub other : place_of_cube k (moved_cube w (cube_of k p)) ≡ p → ⊥

pub way_lands : (k : ℕ) (p : Place) → Occurs k p → (w : ℕ) → w < 27 → touching_way (2 ^ k - sum (cube_of k p)) (cube_of k p) w ≡ true → Lands k p w
unfolding touching_way
way_lands k p h w l e =
    let a = parts _ _ (rw (room_is k p h) at e) in
    let s = way_spanned k p h w l a.1 in
    record {
      spanned = s;
      meet = way_common k p h w l a.1;
      other =
          λ d. eqb-false w 13 (not-true _ a.0)
          (ways_told (cube_of k p) w 13 l (omega arith) (sym (cube_place k _ s) ∙ ap (cube_of k) d ∙ sym (stays (cube_of k p))));
    }

-- and each other cell that has a point in common is reached so
pub lands-way :
    (k : ℕ) (p q : Place) → Occurs k p → Occurs k q → (p ≡ q → ⊥) → common (corners k p) (corners k q) ≡ true
    → (w : ℕ) × (w < 27) × (touching_way (2 ^ k - sum (cube_of k p)) (cube_of k p) w ≡ true) × (place_of_cube k (moved_cube w (cube_of k p)) ≡ q)
unfolding touching_way
lands-way k p q hp hq n e =
    let g = way_to k p q hp hq e in
    let there : place_of_cube k (moved_cube g.way (cube_of k p)) ≡ q = ap (place_of_cube k) (sym g.to) ∙ place_cube k q hq in
    let stay : g.way ≡ 13 → cube_of k p ≡ moved_cube g.way (cube_of k p)
    = λ d. sym (stays (cube_of k p)) ∙ ap (λ (v : ℕ). moved_cube v (cube_of k p)) (sym d) in
    let apart : g.way ≡ 13 → ⊥ = λ d. n (sym (place_cube k p hp) ∙ ap (place_of_cube k) (stay d) ∙ there) in
    (g.way, g.low, rw (ne_eqb g.way 13 apart, room_is k p hp) g.test, there)

-- ---- ways as the code takes them, from any cube that a cell of the level spans

module _ (k r : ℕ) (c : Cube) (sums : sum c + r ≡ 2 ^ k) where
  sums_room : 2 ^ k - sum c ≡ r
  sums_room = omega arith

  pub no_cell : (w : ℕ) → touching_way r c w ≡ false → none ≡ cell_along k c w
  unfolding cell_along
  no_cell w e = rw (sums_room, e)

  pub a_cell : (w : ℕ) → touching_way r c w ≡ true → some (number k (place_of_cube k (moved_cube w c))) ≡ cell_along k c w
  unfolding cell_along
  a_cell w e = rw (sums_room, e)

  pub moved_spanned : (w : ℕ) → w < 27 → touching_way r c w ≡ true → Spanned k (moved_cube w c)
  unfolding touching_way
  moved_spanned w h e =
      let t = true_fit r (lo w) (hi w) (off c w) (parts (not (eqb w 13)) _ e).1 in
      omega (arith, t.first, t.last, sum_moved c w h)
