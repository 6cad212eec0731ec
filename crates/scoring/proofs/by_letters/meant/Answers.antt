-- `scoring::by_letters::meant` meets its contract: the test is the definition's.
use Rattle.std.proofs.Common.{eq-eqb, ne_eqb}
use Rattle.scoring.specs.Meant.{meant}
use Rattle.scoring.proofs.by_letters.meant.Goals as goal

pub returns-then-k-eq110 : goal.returns-then-k-eq110
unfolding meant
returns-then-k-eq110 c = rw (eq-eqb _ _ c.if-k-eq110.true)

pub returns : goal.returns
unfolding meant
returns c = rw (ne_eqb _ _ c.if-k-eq110.false)
