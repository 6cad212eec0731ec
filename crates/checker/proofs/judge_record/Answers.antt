-- `checker::judge_record` meets its contract: a definition line that reads has its name inside.
use Rattle.std.proofs.Common.{sym, ◌∙◌, ap, arith, Err}
use Rattle.definition.specs.Laws.{name-within, fails-near}
use Rattle.checker.specs.Steps.{judged-bad, judged-named}
use Rattle.checker.proofs.judge_record.Goals as goal

pub overflow_add-at : goal.overflow_add-at
overflow_add-at c = omega (arith, c.place.ensures, fails-near c.in-Err.f)

pub judge_named-requires : goal.judge_named-requires
judge_named-requires c = (name-within _ _ (sym c.parse_line.ensures ∙ c.in-Ok.is)).2

pub returns-in-Err : goal.returns-in-Err
returns-in-Err c = ap Err c.refusal.ensures ∙ rw c.place.ensures (judged-bad _ _ _ _ _ _ (sym c.parse_line.ensures ∙ c.in-Err.is))

pub returns-in-Ok : goal.returns-in-Ok
returns-in-Ok c = c.judge_named.ensures ∙ judged-named _ _ _ _ _ _ (sym c.parse_line.ensures ∙ c.in-Ok.is)
