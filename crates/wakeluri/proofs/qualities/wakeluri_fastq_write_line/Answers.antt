-- `wakeluri::qualities::wakeluri_fastq_write_line` meets its contract: it gives the call's answer as numbers, and leaves the lent bytes as the call does.
use Rattle.wakeluri.specs.Laws.{written-told}
use Rattle.wakeluri.specs.Qualities.{line_from}
use Rattle.wakeluri.proofs.qualities.wakeluri_fastq_write_line.Goals as goal

pub returns : goal.returns
unfolding line_from
returns c =
    written-told _ _ _ _ (rw (c.row-used.ensures, c.qualities-qualities.ensures) at c.write_line-written.ensures) c.from.ensures
