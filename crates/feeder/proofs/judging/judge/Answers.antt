-- `feeder::judging::judge` meets its contract: case by case.
use Rattle.std.proofs.Common.{arith}
use Rattle.feeder.specs.Machine.{out_of}
use Rattle.feeder.specs.Small.{SmallPhase}
use Rattle.feeder.proofs.judging.judge.Goals as goal

pub judge_definition-requires : goal.judge_definition-requires
unfolding SmallPhase
judge_definition-requires c = let p = c.requires in let s = rw c.in-Definition.is at p.0 in (omega (arith, s, p.2), p.1)

pub judge_line-requires : goal.judge_line-requires
unfolding SmallPhase
judge_line-requires c = let p = c.requires in let s = rw c.in-Lines.is at p.0 in record { opened = s.0; so_far = s.1; at = s.2; width = p.2; bases = p.1.bases }

pub returns-in-Definition : goal.returns-in-Definition
unfolding out_of
returns-in-Definition c = rw c.in-Definition.is c.judge_definition.ensures

pub returns-in-Lines : goal.returns-in-Lines
unfolding out_of
returns-in-Lines c = rw c.in-Lines.is c.judge_line.ensures

pub returns-in-Halted : goal.returns-in-Halted
unfolding out_of
returns-in-Halted c = rw c.in-Halted.is

pub returns-in-Ended : goal.returns-in-Ended
unfolding out_of
returns-in-Ended c = rw c.in-Ended.is
