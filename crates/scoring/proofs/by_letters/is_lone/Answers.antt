-- `scoring::by_letters::is_lone` meets its contract: its test and the definition's agree at each byte.
use Rattle.std.proofs.Common.{rules}
use Rattle.scoring.specs.Plain.{lone-test}
use Rattle.scoring.proofs.by_letters.is_lone.Goals as goal

pub returns : goal.returns
returns c = lone-test _ (search rules)
