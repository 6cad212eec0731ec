-- `feeder::judging::judge_line` meets its contract: case by case.
use Rattle.feeder.specs.Machine.{line_out}
use Rattle.feeder.proofs.judging.judge_line.Goals as goal

pub returns-in-Strict : goal.returns-in-Strict
unfolding line_out
returns-in-Strict c = rw c.in-Strict.is c.judge_strict.ensures

pub returns-in-Complete : goal.returns-in-Complete
unfolding line_out
returns-in-Complete c = rw c.in-Complete.is c.judge_complete.ensures
