-- `feeder::refused` meets its contract: case by case.
use Rattle.feeder.proofs.refused.Goals as goal

pub returns : goal.returns
returns c = rw c.from.ensures at c.stopped.ensures
