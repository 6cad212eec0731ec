-- `wakeluri::course::wakeluri_score_exercise` meets its contract: it gives the call's answer as numbers, and leaves the lent bytes as the call does.
use Rattle.wakeluri.specs.Course.{scored-told}
use Rattle.wakeluri.proofs.course.wakeluri_score_exercise.Goals as goal

pub returns : goal.returns
returns c = scored-told _ _ _ _ c.score_exercise-scored.ensures c.from.ensures
