-- `fastq::Body::partner` meets its contract: the last partner is the last line.
use Rattle.fastq.specs.Laws.{partner-one, partner-more}
use Rattle.fastq.proofs.Body.partner.Goals as goal

pub returns-then-left-eq1 : goal.returns-then-left-eq1
returns-then-left-eq1 c = partner-one _ _ _ c.if-left-eq1.true

pub returns-else-left-eq1 : goal.returns-else-left-eq1
returns-else-left-eq1 c = partner-more _ _ _ c.if-left-eq1.false
