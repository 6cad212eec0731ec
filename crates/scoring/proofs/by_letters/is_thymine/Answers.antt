-- `scoring::by_letters::is_thymine` meets its contract: the test is the definition.
use Rattle.std.proofs.Common.{rules}
use Rattle.scoring.specs.Meant.{is_thymine}
use Rattle.scoring.proofs.by_letters.is_thymine.Goals as goal

pub returns : goal.returns
unfolding is_thymine
returns c = search rules
