-- `scoring::by_letters::is_uracil` meets its contract: its test and the definition's agree at each byte.
use Rattle.std.proofs.Common.{rules}
use Rattle.scoring.specs.Plain.{uracil-test}
use Rattle.scoring.proofs.by_letters.is_uracil.Goals as goal

pub returns : goal.returns
returns c = uracil-test _ (search rules)
