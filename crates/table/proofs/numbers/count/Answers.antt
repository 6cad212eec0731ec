-- `table::numbers::count` meets its contract: eight bytes to a number.
use Rattle.std.proofs.Common.{sym}
use Rattle.table.specs.NumberLaws.{length-numbers}
use Rattle.table.proofs.numbers.count.Goals as goal

pub returns : goal.returns
returns c = sym (length-numbers _)
