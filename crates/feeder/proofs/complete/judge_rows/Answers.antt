-- `feeder::complete::judge_rows` meets its contract: case by case.
use Rattle.std.proofs.Common.{sym, ◌∙◌}
use Rattle.feeder.specs.Machine.{rows_out}
use Rattle.feeder.proofs.complete.judge_rows.Goals as goal

pub returns-in-None : goal.returns-in-None
unfolding rows_out
returns-in-None c = rw (sym c.place_bases.ensures ∙ c.in-None.is) c.pass_line.ensures

pub returns-in-Some : goal.returns-in-Some
unfolding rows_out
returns-in-Some c = rw (sym c.place_bases.ensures ∙ c.in-Some.is) c.halted.ensures
