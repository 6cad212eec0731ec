-- `scoring::lanes::is_single` meets its contract: its test and the definition's agree at each byte.
use Rattle.std.proofs.Common.{rules}
use Rattle.scoring.specs.Open.{single-test}
use Rattle.scoring.proofs.lanes.is_single.Goals as goal

pub returns : goal.returns
returns c = single-test _ (search rules)
