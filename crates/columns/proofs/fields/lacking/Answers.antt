-- `columns::fields::lacking` meets its contract: where the longest numbers have room, these have; else their digits are counted.
use Rattle.std.proofs.Common.{arith}
use Rattle.columns.specs.Writing.{text-most}
use Rattle.columns.proofs.fields.lacking.Goals as goal

pub returns-then-name-numbers : goal.returns-then-name-numbers
returns-then-name-numbers c = omega (arith, text-most c.args.name.now c.args.numbers.now (λ i. omega (arith, c.type_inv.numbers i)))
