-- `table::numbers::put` meets its contract: a number is put where the table has one.
use Rattle.table.specs.NumberLaws.{became-same}
use Rattle.table.proofs.numbers.put.Goals as goal

pub returns-then-count-k : goal.returns-then-count-k
returns-then-count-k c = became-same _ _ _ _ c.count.ensures c.if-count-k.true
