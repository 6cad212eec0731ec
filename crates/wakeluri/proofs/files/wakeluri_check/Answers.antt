-- `wakeluri::files::wakeluri_check` meets its contract: it gives the call's answer as numbers.
use Rattle.std.proofs.Common.{ap, ◌∙◌}
use Rattle.wakeluri.specs.Answer.{verdict_answer}
use Rattle.wakeluri.proofs.files.wakeluri_check.Goals as goal

pub returns : goal.returns
returns c = c.from.ensures ∙ ap verdict_answer c.check.ensures
