-- `gather_ways` meets its contract. The invariant: slice and count are what the ways below `w` gather. Assumes nothing.
use Prim.Native.Nat.{ℕ, ◌^◌, ◌≤◌, ◌<◌}
use mathlib.Core.Path.{◌≡◌, refl, ap, ◌∙◌}
use mathlib.Core.List.{List}
use native.Mathlib.Omega.{arith}
use Rattle.cell.specs.Cell.{Place, Occurs, place_of}
use Rattle.cell.proofs.Laws.{shifted}
use Rattle.adjacency.specs.declared.Cube.{Cube}
use Rattle.adjacency.specs.Cube.{sum, cube_of, gathered}
use Rattle.cubes.proofs.Gathering.{rooms, room_found, gathered-more}
use Rattle.cubes.proofs.gather_ways.Goals as goal

room-left : {n m L : ℕ} → n ≡ m → L ≡ 12 → m < 12 → n < L
room-left p q h = omega arith

rooms-below : (k : ℕ) (p : Place) → Occurs k p → (c : Cube) → c ≡ cube_of k p → sum c ≤ 2 ^ k
rooms-below k p o c e = omega (arith, rooms k p o c e)

pub room_in-room-requires : goal.room_in-room-requires
room_in-room-requires c =
    let s = c.args.site in
    rw (shifted 32 s.level.k (omega (arith, s.level.bounded))) (rooms-below s.level.k (place_of s.place) s.occurs _ c.cube_of-cube.ensures)

pub loop-w-init : goal.loop-w-init
unfolding gathered
loop-w-init c = (refl, refl)

pub loop-w-preserved : goal.loop-w-preserved
loop-w-preserved c =
    let a = c.args in
    let l = c.loop-w in
    (c.add_along-count.auto.found ∙ l.invariant.0, gathered-more a.site.level.k c.cube_of-cube.result a.found.now l.found l.count l.w _ c.add_along-count.ensures l.invariant.1)

pub add_along-count-requires : goal.add_along-count-requires
add_along-count-requires c =
    let s = c.args.site in
    let l = c.loop-w in
    let e = rw (shifted 32 s.level.k (omega (arith, s.level.bounded))) at c.room_in-room.ensures in
    let r = rooms s.level.k (place_of s.place) s.occurs _ c.cube_of-cube.ensures in
    record {
      room = (rw e r.0, rw e r.1, rw e r.2);
      by_index = λ x f. room-left (ap (λ (g : List ℕ × ℕ). g.1) l.invariant.1) (l.invariant.0 ∙ c.requires)
          (room_found s.level.k (place_of s.place) s.occurs _ c.cube_of-cube.ensures c.args.found.now l.w x (omega arith) f);
    }
