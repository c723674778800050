-- `settle_word` meets its contract: a word whose open cells are all reached is passed; else it is gone over once, and then more may be added. Assumes nothing.
use Rattle.flood.proofs.Turns.{added_more, turn_none, turn_more}
use Rattle.flood.proofs.Joining.{full_closed}
use Rattle.flood.proofs.words.settle_word.Goals as goal

pub returns-then-reached-at-2 : goal.returns-then-reached-at-2
returns-then-reached-at-2 c =
    let a = c.args in
    let o = a.opened.now in
    let r = a.reached.now in
    turn_none (full_closed a.word.at o.up o.down r.up r.down c.if-reached-at.true c.if-reached-at-2.true)

pub returns-then-not-reach_word-2 : goal.returns-then-not-reach_word-2
returns-then-not-reach_word-2 c = turn_more c.if-not-reach_word.ensures (added_more c.loop.invariant c.reach_word-in-loop.ensures.added)

pub loop-preserved : goal.loop-preserved
loop-preserved c = added_more c.loop.invariant c.reach_word-in-loop.ensures.added

pub returns : goal.returns
returns c = turn_more c.if-not-reach_word.ensures c.loop.invariant
