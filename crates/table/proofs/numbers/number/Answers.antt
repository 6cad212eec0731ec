-- `table::numbers::number` meets its contract: it asks whether the table has the number.
use Rattle.table.specs.NumberLaws.{number-none}
use Rattle.table.proofs.numbers.number.Goals as goal

pub returns-then-count-k : goal.returns-then-count-k
returns-then-count-k c = number-none _ _ _ c.count.ensures c.if-count-k.true

pub returns : goal.returns
returns c = c.number.ensures
