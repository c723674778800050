-- `cell_at` meets its contract: the way leads to a place of the level, whose number is given. Assumes nothing.
use Rattle.std.proofs.Common.{rules}
use mathlib.Core.Path.{ap, ◌∙◌}
use Rattle.cell.specs.Cell.{number_call}
use Rattle.cell.proofs.Answers.{given_number}
use Rattle.touch.proofs.Twelve.{room_to_step, found_along}
use Rattle.touch.proofs.inner.cell_at.Goals as goal

pub place_at-requires : goal.place_at-requires
place_at-requires c =
    let p = c.args.site.place in
    let r = room_to_step c.args.site.level.k p.octant p.row p.col p.kind c.args.site.occurs c.requires.0 c.args.site.level.bounded in
    (c.requires.1, r.0, r.1, r.2, r.3)

pub unwrap-requires : goal.unwrap-requires
unwrap-requires c =
    let p = c.args.site.place in
    let o = (found_along c.args.site.level.k p.octant p.row p.col p.kind c.args.site.occurs c.requires.0 c.args.i c.requires.1).occurs in
    let given = c.number_of.ensures ∙ ap (number_call c.args.site.level.k) c.place_at.ensures ∙ given_number c.args.site.level.k _ c.args.site.level.bounded o in
    search rules
