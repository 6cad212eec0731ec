-- `fastq_index::index_part` meets its contract: a table that is known by its numbers and its rest is known to the byte.
use Rattle.std.proofs.Common.{arith}
use Rattle.fastq_index.specs.Part.{part_in}
use Rattle.fastq_index.specs.PartLaws.{part-filled}
use Rattle.fastq_index.proofs.index_part.Goals as goal

pub returns : goal.returns
unfolding part_in
returns c =
    part-filled _ _ _ _ _ _ (record { filled = c.fill-next.ensures.filled; rest = c.fill-next.ensures.rest }) c.fill-next.ensures.reached (λ i. omega (arith, c.slice_known-2-1.given i))
