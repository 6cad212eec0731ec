-- `feeder::strict::judge_strict` meets its contract: case by case.
use Rattle.std.proofs.Common.{arith}
use Rattle.feeder.specs.Machine.{strict_out}
use Rattle.feeder.proofs.strict.judge_strict.Goals as goal

pub judge_further-requires : goal.judge_further-requires
judge_further-requires c = let p = c.requires in let s = rw c.in-Run.is at p.so_far in omega (arith, p.opened.at, p.opened.name-start, p.opened.text-start, p.at, p.width, p.bases, s.0.bases)

pub judge_further-requires-in-Rows : goal.judge_further-requires-in-Rows
judge_further-requires-in-Rows c = let p = c.requires in let s = rw c.in-Rows.is at p.so_far in omega (arith, p.opened.at, p.opened.name-start, p.opened.text-start, p.at, p.width, p.bases, s.1)

pub returns-in-Blank : goal.returns-in-Blank
unfolding strict_out
returns-in-Blank c = rw c.in-Blank.is c.judge_first.ensures

pub returns-in-Run : goal.returns-in-Run
unfolding strict_out
returns-in-Run c = rw c.in-Run.is c.judge_further.ensures

pub returns-in-Rows : goal.returns-in-Rows
unfolding strict_out
returns-in-Rows c = rw c.in-Rows.is c.judge_further-in-Rows.ensures
