-- `feeder::opening::close_alone` meets its contract: case by case.
use Rattle.feeder.specs.Machine.{close_alone}
use Rattle.feeder.proofs.opening.close_alone.Goals as goal

pub returns-in-Strict : goal.returns-in-Strict
unfolding close_alone
returns-in-Strict c = rw c.in-Strict.is c.halted.ensures

pub returns-in-Complete : goal.returns-in-Complete
unfolding close_alone
returns-in-Complete c = rw (c.in-Complete.is, c.row_alone.ensures)
