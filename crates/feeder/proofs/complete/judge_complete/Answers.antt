-- `feeder::complete::judge_complete` meets its contract: case by case.
use Rattle.std.proofs.Common.{eq-eqb, ne_eqb}
use Rattle.feeder.specs.Machine.{complete_out}
use Rattle.feeder.proofs.complete.judge_complete.Goals as goal

pub returns-then-x-eq0 : goal.returns-then-x-eq0
unfolding complete_out
returns-then-x-eq0 c = rw (eq-eqb _ _ c.if-x-eq0.true) c.pass_line.ensures

pub returns : goal.returns
unfolding complete_out
returns c = rw (ne_eqb _ _ c.if-x-eq0.false) c.judge_bases.ensures
