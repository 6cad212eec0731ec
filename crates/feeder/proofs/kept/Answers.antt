-- `feeder::kept` meets its contract: case by case.
use Rattle.feeder.specs.Calls.{kept_by}
use Rattle.feeder.specs.CallLaws.{kept-other}
use Rattle.feeder.proofs.kept.Goals as goal

pub returns-in-Halted : goal.returns-in-Halted
unfolding kept_by
returns-in-Halted c = rw c.in-Halted.is c.stopped.ensures

pub returns-in_default : goal.returns-in_default
returns-in_default c = kept-other _ _ _ _ _ c.in_default.not-Halted
