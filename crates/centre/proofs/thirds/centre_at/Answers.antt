-- `centre_at` meets its contract: p and m are those of the place's row and column, and both are below q. Assumes nothing.
use native.Mathlib.Omega.{arith}
use Rattle.centre.specs.Centre.{centre}
use Rattle.centre.proofs.Laws.{middle, place_parts}
use Rattle.centre.proofs.thirds.centre_at.Goals as goal

pub centre_p-p-requires : goal.centre_p-p-requires
centre_p-p-requires c =
    let p = c.args.site.place in
    let known = middle c.args.site.level.k p _ (c.thirds_of-s.ensures p.row p.col) (c.args.site.level.bounded, c.args.site.occurs) in
    omega arith

pub overflow_add-place : goal.overflow_add-place
overflow_add-place c =
    let p = c.args.site.place in
    let known = middle c.args.site.level.k p _ (c.thirds_of-s.ensures p.row p.col) (c.args.site.level.bounded, c.args.site.occurs) in
    omega arith

pub overflow_sub-p : goal.overflow_sub-p
overflow_sub-p c =
    let p = c.args.site.place in
    let known = middle c.args.site.level.k p _ (c.thirds_of-s.ensures p.row p.col) (c.args.site.level.bounded, c.args.site.occurs) in
    omega arith

pub centre_m-m-requires : goal.centre_m-m-requires
centre_m-m-requires c =
    let p = c.args.site.place in
    let known = middle c.args.site.level.k p _ (c.thirds_of-s.ensures p.row p.col) (c.args.site.level.bounded, c.args.site.occurs) in
    omega arith

pub latitude_of-requires : goal.latitude_of-requires
latitude_of-requires c =
    let p = c.args.site.place in
    let known = middle c.args.site.level.k p _ (c.thirds_of-s.ensures p.row p.col) (c.args.site.level.bounded, c.args.site.occurs) in
    omega (arith, c.centre_p-p.ensures, known.low)

pub longitude_of-requires : goal.longitude_of-requires
longitude_of-requires c =
    let p = c.args.site.place in
    let known = middle c.args.site.level.k p _ (c.thirds_of-s.ensures p.row p.col) (c.args.site.level.bounded, c.args.site.occurs) in
    omega (arith, rw c.centre_p-p.ensures at c.centre_m-m.ensures, c.centre_p-p.ensures, known.low, known.east)

pub returns : goal.returns
unfolding centre
returns c =
    let p = c.args.site.place in
    let parts = place_parts c.args.site.level.k p.kind p.row p.col _ (c.thirds_of-s.ensures p.row p.col) in
    rw (c.latitude_of.ensures, c.longitude_of.ensures, c.centre_m-m.ensures, c.centre_p-p.ensures, parts.0, parts.1)
