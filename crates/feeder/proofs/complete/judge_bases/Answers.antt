-- `feeder::complete::judge_bases` meets its contract: case by case.
use Rattle.std.proofs.Common.{arith}
use Rattle.feeder.specs.Machine.{bases_out}
use Rattle.feeder.proofs.complete.judge_bases.Goals as goal

pub overflow_sub-rows : goal.overflow_sub-rows
overflow_sub-rows c = let p = c.requires.0 in let s = rw c.in-Run.is at p.so_far in omega (arith, s.1)

pub judge_rows-requires : goal.judge_rows-requires
judge_rows-requires c = let p = c.requires.0 in let s = rw c.in-Run.is at p.so_far in record { opened = p.opened; some = s.0.some; apart = omega (arith, s.1); count = s.0.bases; at = p.at; width = p.width; bases = p.bases; here = c.requires.1 }

pub judge_rows-requires-in-Rows : goal.judge_rows-requires-in-Rows
judge_rows-requires-in-Rows c = let p = c.requires.0 in let s = rw c.in-Rows.is at p.so_far in record { opened = p.opened; some = s.0.some; apart = s.0.apart; count = s.1; at = p.at; width = p.width; bases = p.bases; here = c.requires.1 }

pub returns-in-Blank : goal.returns-in-Blank
unfolding bases_out
returns-in-Blank c = rw c.in-Blank.is c.pass_line.ensures

pub returns-in-Run : goal.returns-in-Run
unfolding bases_out
returns-in-Run c = rw c.in-Run.is c.judge_rows.ensures

pub returns-in-Rows : goal.returns-in-Rows
unfolding bases_out
returns-in-Rows c = rw c.in-Rows.is c.judge_rows-in-Rows.ensures
