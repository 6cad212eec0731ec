-- `wakeluri::qualities::wakeluri_fastq_index` meets its contract: it gives the call's answer as numbers, and leaves the lent bytes as the call does.
use Rattle.wakeluri.specs.Qualities.{rows-told}
use Rattle.wakeluri.proofs.qualities.wakeluri_fastq_index.Goals as goal

pub returns : goal.returns
returns c = rows-told _ _ _ _ _ c.index_file-filled.ensures c.from.ensures
