-- `feeder::still_stopped` meets its contract: case by case.
use Rattle.feeder.specs.Calls.{still_stopped}
use Rattle.feeder.specs.CallLaws.{still-other}
use Rattle.feeder.proofs.still_stopped.Goals as goal

pub returns-in-Ended : goal.returns-in-Ended
unfolding still_stopped
returns-in-Ended c = rw c.in-Ended.is c.refused.ensures

pub returns-in_default : goal.returns-in_default
returns-in_default c = still-other _ _ c.in_default.not-Ended
