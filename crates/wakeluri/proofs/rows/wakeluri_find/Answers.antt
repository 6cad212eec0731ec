-- `wakeluri::rows::wakeluri_find` meets its contract: it gives the call's answer as numbers.
use Rattle.std.proofs.Common.{ap, ◌∙◌}
use Rattle.wakeluri.specs.Answer.{written_answer, found_answer}
use Rattle.wakeluri.proofs.rows.wakeluri_find.Goals as goal

pub returns : goal.returns
unfolding written_answer found_answer
returns c = c.from.ensures ∙ ap found_answer c.find.ensures
