-- `sheet::going::Going::judge` meets its contract: by what the region's read answers.
use Rattle.std.proofs.Common.{sym, ◌∙◌}
use Rattle.sheet.specs.Sheet.{capped}
use Rattle.sheet.specs.Turns.{judged-stops, judged-goes}
use Rattle.sheet.proofs.going.Going.judge.Goals as goal

pub returns-in-Err : goal.returns-in-Err
returns-in-Err c = c.refused.ensures ∙ judged-stops _ _ _ _ _ (sym c.exact_answer.ensures ∙ c.in-Err.is)

pub returns-in-Ok : goal.returns-in-Ok
unfolding capped
returns-in-Ok c = c.weigh.ensures ∙ judged-goes _ _ _ _ _ (sym c.exact_answer.ensures ∙ c.in-Ok.is) _ c.saturating_add.ensures
