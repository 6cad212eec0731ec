-- `feeder::growing::is_end_alone` meets its contract: case by case.
use Rattle.feeder.specs.CodeLaws.{alone-none, alone-one, alone-more}
use Rattle.feeder.proofs.growing.is_end_alone.Goals as goal

pub returns-then-n-eq0 : goal.returns-then-n-eq0
returns-then-n-eq0 c = alone-none _ c.if-n-eq0.true

pub returns-then-n-eq1 : goal.returns-then-n-eq1
returns-then-n-eq1 c = alone-one _ c.if-n-eq1.true

pub returns : goal.returns
returns c = alone-more _ c.if-n-eq0.false c.if-n-eq1.false
