-- `record::Record::described` meets its contract: only the description's span changes.
use Rattle.record.proofs.Record.described.Goals as goal

pub returns : goal.returns
returns c = rw c.described_at.ensures
