-- `wakeluri::course::wakeluri_score_typed` meets its contract: it gives the call's answer as numbers.
use Rattle.std.proofs.Common.{ap, ◌∙◌}
use Rattle.wakeluri.specs.Course.{score_answer}
use Rattle.wakeluri.proofs.course.wakeluri_score_typed.Goals as goal

pub returns : goal.returns
returns c = c.from.ensures ∙ ap score_answer c.score_typed.ensures
