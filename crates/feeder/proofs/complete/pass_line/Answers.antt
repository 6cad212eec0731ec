-- `feeder::complete::pass_line` meets its contract: case by case.
use Rattle.feeder.specs.Machine.{passed_out}
use Rattle.feeder.proofs.complete.pass_line.Goals as goal

pub returns-then-last : goal.returns-then-last
unfolding passed_out
returns-then-last c = rw (c.if-last.true, c.told_row.ensures)

pub returns : goal.returns
unfolding passed_out
returns c = rw c.if-last.false
