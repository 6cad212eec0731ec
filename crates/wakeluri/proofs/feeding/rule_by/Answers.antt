-- `wakeluri::feeding::rule_by` meets its contract: case by case.
use Rattle.std.proofs.Common.{eq-eqb, ne_eqb}
use Rattle.wakeluri.specs.Feeding.{rule_by}
use Rattle.wakeluri.proofs.feeding.rule_by.Goals as goal

pub returns-then-n-eq0 : goal.returns-then-n-eq0
unfolding rule_by
returns-then-n-eq0 c = rw (eq-eqb _ _ c.if-n-eq0.true)

pub returns : goal.returns
unfolding rule_by
returns c = rw (ne_eqb _ _ c.if-n-eq0.false)
