-- `wakeluri::course::wakeluri_read_exercise` meets its contract: it gives the call's answer as numbers.
use Rattle.std.proofs.Common.{ap, ◌∙◌}
use Rattle.wakeluri.specs.Course.{exercise_answer}
use Rattle.wakeluri.proofs.course.wakeluri_read_exercise.Goals as goal

pub returns : goal.returns
returns c = c.from.ensures ∙ ap exercise_answer c.read_exercise.ensures
