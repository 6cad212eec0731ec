-- `wakeluri::qualities::wakeluri_fastq_check_part` meets its contract: it gives the call's answer as numbers.
use Rattle.std.proofs.Common.{ap, ◌∙◌}
use Rattle.wakeluri.specs.Qualities.{passed_answer}
use Rattle.wakeluri.proofs.qualities.wakeluri_fastq_check_part.Goals as goal

pub returns : goal.returns
returns c = c.from.ensures ∙ ap passed_answer c.check_part.ensures
