-- `wakeluri::qualities::wakeluri_fastq_read` meets its contract: it gives the call's answer as numbers, and leaves the lent bytes as the call does; a bound is absent
-- by its flag, and the part is chosen by its own.
use Rattle.wakeluri.specs.Laws.{written-told}
use Rattle.wakeluri.specs.Qualities.{part_read}
use Rattle.wakeluri.proofs.qualities.wakeluri_fastq_read.Goals as goal

pub returns : goal.returns
unfolding part_read
returns c =
    written-told _ _ _ _ (rw (c.bound-a.ensures, c.bound-e.ensures, c.row-used.ensures, c.part.ensures) at c.read_exact-read.ensures) c.from.ensures
