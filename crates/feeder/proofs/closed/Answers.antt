-- `feeder::closed` meets its contract: case by case.
use Rattle.std.proofs.Common.{◌∙◌}
use Rattle.feeder.specs.Calls.{closed_by}
use Rattle.feeder.specs.CallLaws.{closed-other}
use Rattle.feeder.proofs.closed.Goals as goal

pub returns-in-Halted : goal.returns-in-Halted
unfolding closed_by
returns-in-Halted c = rw c.in-Halted.is c.stopped.ensures

pub returns-in_default : goal.returns-in_default
returns-in_default c = c.stopped-in_default.ensures ∙ closed-other _ _ _ c.in_default.not-Halted
