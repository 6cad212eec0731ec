-- `scoring::by_letters::is_clear` meets its contract: its test and the definition's agree at each byte.
use Rattle.std.proofs.Common.{rules}
use Rattle.scoring.specs.Meant.{clear-test}
use Rattle.scoring.proofs.by_letters.is_clear.Goals as goal

pub returns : goal.returns
returns c = rw c.is_thymine.ensures (clear-test _ (search rules))
