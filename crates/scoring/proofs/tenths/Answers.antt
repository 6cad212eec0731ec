-- `scoring::tenths` meets its contract.
use Rattle.scoring.specs.Laws.{tenths-none, tenths-some}
use Rattle.scoring.proofs.tenths.Goals as goal

pub returns-then-whole-eq0 : goal.returns-then-whole-eq0
returns-then-whole-eq0 c = tenths-none _ _ c.if-whole-eq0.true

pub returns : goal.returns
returns c = tenths-some _ _ c.if-whole-eq0.false
