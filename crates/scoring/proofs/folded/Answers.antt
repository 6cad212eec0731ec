-- `scoring::folded` meets its contract: a law for each case.
use Rattle.std.proofs.Common.{arith}
use Rattle.scoring.specs.RuleLaws.{folded_low, folded-high, folded-letter}
use Rattle.scoring.proofs.folded.Goals as goal

pub returns-then-b-lt97 : goal.returns-then-b-lt97
returns-then-b-lt97 c = folded_low _ (omega arith)

pub returns-then-b-gt122 : goal.returns-then-b-gt122
returns-then-b-gt122 c = folded-high _ (omega arith) (omega arith)

pub returns : goal.returns
returns c = folded-letter _ (omega arith) (omega arith)
