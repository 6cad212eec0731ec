-- `fastq_index::index_file` meets its contract: the part from 0 to the end is the whole file; a table that is known by its numbers and its rest is
-- known to the byte.
use Rattle.std.proofs.Common.{◌≡◌, arith, length}
use Rattle.fastq_index.specs.File.{rows_at, file_in}
use Rattle.fastq_index.specs.Part.{rows_before}
use Rattle.fastq_index.specs.PartLaws.{part-whole}
use Rattle.table.specs.KindLaws.{filled-bytes}
use Rattle.fastq_index.proofs.index_file.Goals as goal

pub returns : goal.returns
unfolding file_in
returns c =
    let s = c.args.s.now in
    let w : rows_before s (length s) 0 ≡ rows_at s 0 = part-whole s (length s) 0 (omega arith) in
    filled-bytes _ _ _ _ (record { filled = rw w at c.fill.ensures.filled; rest = c.fill.ensures.rest }) (λ i. omega (arith, c.slice_known-2-1.given i))
