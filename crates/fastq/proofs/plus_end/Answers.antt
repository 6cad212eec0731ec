-- `fastq::plus_end` meets its contract: a '+' is no LF, so an LF behind it ends the line.
use Rattle.fastq.specs.Passing.{plus-line}
use Rattle.fastq.proofs.plus_end.Goals as goal

pub returns-then-s-at-eq10 : goal.returns-then-s-at-eq10
returns-then-s-at-eq10 c = plus-line _ _ c.if-s-at-ge2.true c.if-s-at-eq43.true c.if-s-at-eq10.true
