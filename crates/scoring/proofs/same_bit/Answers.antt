-- `scoring::same_bit` meets its contract: the test is the definition.
use Rattle.scoring.specs.Rules.{same}
use Rattle.scoring.specs.Plain.{byte-bit}
use Rattle.scoring.proofs.same_bit.Goals as goal

pub returns : goal.returns
unfolding same
returns c = rw (c.folded.ensures, c.folded-2.ensures) (byte-bit _)
