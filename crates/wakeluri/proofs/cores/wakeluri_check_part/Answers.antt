-- `wakeluri::cores::wakeluri_check_part` meets its contract: what the call answers is told.
use Rattle.std.proofs.Common.{ap, ◌∙◌}
use Rattle.wakeluri.specs.Answer.{verdict_answer}
use Rattle.wakeluri.proofs.cores.wakeluri_check_part.Goals as goal

pub returns : goal.returns
returns c = c.from.ensures ∙ ap verdict_answer c.check_part-verdict.ensures
