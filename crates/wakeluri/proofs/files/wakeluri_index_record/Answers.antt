-- `wakeluri::files::wakeluri_index_record` meets its contract: it gives the call's answer as numbers.
use Rattle.std.proofs.Common.{ap, ◌∙◌}
use Rattle.wakeluri.specs.Answer.{step_answer}
use Rattle.wakeluri.proofs.files.wakeluri_index_record.Goals as goal

pub returns : goal.returns
returns c = c.from.ensures ∙ ap step_answer c.index_record.ensures
