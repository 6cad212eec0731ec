-- `fastq::body_ends` meets its contract: past the end there is no line, and the byte at a place before it decides.
use Rattle.std.proofs.Common.{◌∙◌}
use borrow.Author.Tests.{le-leb}
use Rattle.fastq.specs.Laws.{ends-here, ends-past}
use Rattle.fastq.proofs.body_ends.Goals as goal

pub returns-then-s-at : goal.returns-then-s-at
returns-then-s-at c = le-leb _ _ c.if-s-at.true ∙ ends-past _ _ c.if-s-at.true

pub returns-else-s-at : goal.returns-else-s-at
returns-else-s-at c = ends-here _ _ c.if-s-at.false
