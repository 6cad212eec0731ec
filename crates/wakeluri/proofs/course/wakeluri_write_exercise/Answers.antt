-- `wakeluri::course::wakeluri_write_exercise` meets its contract: it gives the call's answer as numbers, and leaves the lent bytes as the call does.
use Rattle.wakeluri.specs.Laws.{written-told}
use Rattle.wakeluri.proofs.course.wakeluri_write_exercise.Goals as goal

pub returns : goal.returns
returns c = written-told _ _ _ _ c.write_exercise-written.ensures c.from.ensures
