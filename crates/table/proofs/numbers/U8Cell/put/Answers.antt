-- A number put in a table of bytes: its eight bytes are written, and no others.
use Rattle.std.proofs.Common.{refl, arith}
use Rattle.table.specs.NumberLaws.{length-numbers, number-inside, became-put}
use Rattle.table.proofs.numbers.U8Cell.put.Goals as goal

pub overflow_mul-at : goal.overflow_mul-at
overflow_mul-at c = omega (arith, length-numbers c.args.table.now)

pub overflow_add-at : goal.overflow_add-at
overflow_add-at c = omega (arith, length-numbers c.args.table.now)

pub slice_bounds-to_bytes-end : goal.slice_bounds-to_bytes-end
slice_bounds-to_bytes-end c = number-inside _ _ _ refl c.requires

pub returns-clause-numbers : goal.returns-clause-numbers
returns-clause-numbers c = (became-put _ _ _ _ refl c.requires (omega arith) _ c.to_bytes.ensures).numbers

pub returns-clause-rest : goal.returns-clause-rest
returns-clause-rest c = (became-put c.args.table.now c.args.k _ _ refl c.requires (omega arith) _ c.to_bytes.ensures).rest
