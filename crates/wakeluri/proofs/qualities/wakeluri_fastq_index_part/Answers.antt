-- `wakeluri::qualities::wakeluri_fastq_index_part` meets its contract: it gives the call's answer as numbers, with the place where it stopped, and
-- leaves the lent bytes as the call does.
use Rattle.wakeluri.specs.Qualities.{part-told}
use Rattle.wakeluri.proofs.qualities.wakeluri_fastq_index_part.Goals as goal

pub returns : goal.returns
returns c = part-told _ _ _ _ _ _ _ _ c.index_part-part.ensures c.from.ensures c.stopped.ensures
