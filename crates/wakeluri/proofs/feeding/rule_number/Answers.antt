-- `wakeluri::feeding::rule_number` meets its contract: case by case.
use Rattle.wakeluri.specs.Feeding.{rule_number}
use Rattle.wakeluri.proofs.feeding.rule_number.Goals as goal

pub returns-in-Strict : goal.returns-in-Strict
unfolding rule_number
returns-in-Strict c = rw c.in-Strict.is

pub returns-in-Complete : goal.returns-in-Complete
unfolding rule_number
returns-in-Complete c = rw c.in-Complete.is
