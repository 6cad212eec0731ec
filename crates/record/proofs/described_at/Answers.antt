-- `record::described_at` meets its contract: no bytes, or some.
use Rattle.record.specs.Laws.{described-some}
use Rattle.record.proofs.described_at.Goals as goal

pub returns-then-length-eq0 : goal.returns-then-length-eq0
returns-then-length-eq0 c = rw c.if-length-eq0.true

pub returns : goal.returns
returns c = described-some _ _ c.if-length-eq0.false
