-- `wakeluri::qualities::wakeluri_fastq_read_line` meets its contract: it gives the call's answer as numbers.
use Rattle.std.proofs.Common.{ap, ◌∙◌}
use Rattle.wakeluri.specs.Qualities.{fastq_answer}
use Rattle.wakeluri.proofs.qualities.wakeluri_fastq_read_line.Goals as goal

pub returns : goal.returns
returns c = c.from.ensures ∙ ap fastq_answer c.read_line.ensures
