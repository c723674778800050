-- Each code that was found is one of eight.
use Rattle.border_writer.proofs.Writing.{found_below}
use Rattle.border_writer.proofs.write.Goals as goal

pub invariant_of-put-clause-low : goal.invariant_of-put-clause-low
invariant_of-put-clause-low c = found_below _ c.args.cells.now _ c.in_ok-find_codes.ensures.steps c.in_ok-find_codes.ensures.codes
