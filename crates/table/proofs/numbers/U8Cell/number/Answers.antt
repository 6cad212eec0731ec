-- Number `k` of a table of bytes is that of its eight bytes.
use Rattle.std.proofs.Common.{refl, ◌∙◌, arith}
use Rattle.table.specs.NumberLaws.{length-numbers, number-inside, number-here}
use Rattle.table.proofs.numbers.U8Cell.number.Goals as goal

pub overflow_mul-at : goal.overflow_mul-at
overflow_mul-at c = omega (arith, length-numbers c.args.table.now)

pub overflow_add-at : goal.overflow_add-at
overflow_add-at c = omega (arith, length-numbers c.args.table.now)

pub slice_bounds-from_bytes-end : goal.slice_bounds-from_bytes-end
slice_bounds-from_bytes-end c = number-inside _ _ _ refl c.requires

pub returns : goal.returns
returns c = c.from_bytes.ensures ∙ number-here _ _ _ refl c.requires
