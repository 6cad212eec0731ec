-- `feeder::strict::judge_first` meets its contract: case by case.
use Rattle.std.proofs.Common.{eq-eqb, ne_eqb}
use Rattle.feeder.specs.Machine.{first_out}
use Rattle.feeder.proofs.strict.judge_first.Goals as goal

pub returns-then-x-eq0 : goal.returns-then-x-eq0
unfolding first_out
returns-then-x-eq0 c = rw (eq-eqb _ _ c.if-x-eq0.true) c.halted.ensures

pub returns-then-last : goal.returns-then-last
unfolding first_out
returns-then-last c = rw (ne_eqb _ _ c.if-x-eq0.false, c.if-last.true, c.row.ensures)

pub returns : goal.returns
unfolding first_out
returns c = rw (ne_eqb _ _ c.if-x-eq0.false, c.if-last.false)
