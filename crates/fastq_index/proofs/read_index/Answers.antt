-- `fastq_index::read_index` meets its contract: a table that is known by its numbers and its rest is known to the byte.
use Rattle.std.proofs.Common.{arith}
use Rattle.fastq_index.specs.Text.{index_in}
use Rattle.table.specs.KindLaws.{filled-bytes}
use Rattle.fastq_index.proofs.read_index.Goals as goal

pub returns : goal.returns
unfolding index_in
returns c =
    filled-bytes _ _ _ _ (record { filled = c.fill.ensures.filled; rest = c.fill.ensures.rest }) (λ i. omega (arith, c.slice_known-2-1.given i))
