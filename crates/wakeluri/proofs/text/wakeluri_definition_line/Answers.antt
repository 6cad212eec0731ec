-- `wakeluri::text::wakeluri_definition_line` meets its contract: it gives the call's answer as numbers.
use Rattle.std.proofs.Common.{ap, ◌∙◌}
use Rattle.wakeluri.specs.Answer.{definition_answer}
use Rattle.wakeluri.proofs.text.wakeluri_definition_line.Goals as goal

pub returns : goal.returns
returns c = c.from.ensures ∙ ap definition_answer c.read_line.ensures
