-- `feeder::opening::judge_definition` meets its contract: case by case.
use Rattle.std.proofs.Common.{sym, ◌∙◌, arith}
use Rattle.definition.specs.Laws.{fails-near}
use Rattle.feeder.specs.SmallLaws.{says-small}
use Rattle.feeder.specs.Machine.{definition_out}
use Rattle.feeder.proofs.opening.judge_definition.Goals as goal

pub overflow_add-at : goal.overflow_add-at
overflow_add-at c = omega (arith, c.requires.0, c.place.ensures, fails-near c.in-Err.f)

pub close_alone-requires : goal.close_alone-requires
close_alone-requires c = let s = says-small _ c.requires.1 _ (sym c.says.ensures ∙ c.in-Ok.is) in omega (arith, c.requires.0, s.name-start, s.text-start)

pub returns-then-last : goal.returns-then-last
unfolding definition_out
returns-then-last c = rw (sym c.says.ensures ∙ c.in-Ok.is, c.if-last.true) c.close_alone.ensures

pub returns-in-Err : goal.returns-in-Err
unfolding definition_out
returns-in-Err c = rw (sym c.says.ensures ∙ c.in-Err.is) (rw (c.refusal.ensures, c.place.ensures) at c.halted.ensures)

pub returns-else-last : goal.returns-else-last
unfolding definition_out
returns-else-last c = rw (sym c.says.ensures ∙ c.in-Ok.is, c.if-last.false)
