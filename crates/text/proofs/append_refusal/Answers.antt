-- `append_refusal` meets its contract: the line is put together piece after piece, and then put at once. Assumes nothing.
use mathlib.Core.Path.{refl, ap, ◌∙◌}
use lib.ListN.{replicate}
use Rattle.text.specs.Text.{appended, refusal_line}
use Rattle.text.proofs.Laws.{Written, written_counts, refusal_written}
use Rattle.text.proofs.append_refusal.Goals as goal
use Rattle.text.proofs.append_refusal.Goals.{After-append-c}

-- the line is put together
together : (l : After-append-c) → Written 32 l.append-c.new.out l.append-c.result (refusal_line l.args.n)
together l =
    refusal_written (replicate 32 0) _ _ _ _ _ _ l.args.n refl l.append-a.ensures l.append_decimal-b.ensures l.append-c.ensures

pub slice_bounds-line-end : goal.slice_bounds-line-end
slice_bounds-line-end c = (written_counts 32 _ _ _ (together (goal.at.slice_bounds-line-end c).After-append-c)).0

pub slice_bounds-append-end-5 : goal.slice_bounds-append-end-5
slice_bounds-append-end-5 c = (written_counts 32 _ _ _ (together (goal.at.slice_bounds-append-end-5 c).After-append-c)).1

pub returns : goal.returns
returns c =
    let a = c.args in
    c.append.ensures ∙ ap (appended a.out.now a.at) (together (goal.at.returns c).After-append-c).front
