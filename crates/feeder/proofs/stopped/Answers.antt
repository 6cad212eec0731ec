-- `feeder::stopped` meets its contract: case by case.
use Rattle.feeder.proofs.stopped.Goals as goal

pub returns : goal.returns
returns c = rw c.no_line.ensures
