-- `fastq::Body::partners_like_first` meets its contract: all partners but the last are the first line.
use Rattle.fastq.specs.Passing.{all-like, all_but_last}
use Rattle.fastq.proofs.Body.partners_like_first.Goals as goal

pub returns-then-self-2 : goal.returns-then-self-2
returns-then-self-2 c = all-like _ _ _ c.if-self.true c.if-self-2.true

pub returns : goal.returns
returns c = rw c.saturating_sub.ensures (all_but_last _ _ _)
