-- `feeder::judging::settle` meets its contract: case by case.
use Rattle.std.proofs.Common.{sym, ◌∙◌, arith}
use Rattle.table.specs.Numbers.{numbers_in}
use Rattle.table.specs.NumberLaws.{length-numbers}
use Rattle.table.specs.RowLaws.{kept-inside}
use Rattle.table.specs.Rows.{row_count}
use Rattle.feeder.specs.CodeLaws.{settled-keeps, settled-row, settled-full}
use Rattle.feeder.proofs.judging.settle.Goals as goal

pub overflow_add-result : goal.overflow_add-result
unfolding row_count
overflow_add-result c = omega (arith, length-numbers c.args.table.now, kept-inside (numbers_in c.args.table.now) c.args.rows (sym c.store.ensures.stored.answer ∙ c.in-Ok.is))

pub returns-in-Keeps : goal.returns-in-Keeps
returns-in-Keeps c = settled-keeps _ _ _ _ c.in-Keeps.is

pub returns-in-Ok : goal.returns-in-Ok
returns-in-Ok c = settled-row _ _ _ _ _ c.in-Emits.is _ _ c.store.ensures c.in-Ok.is

pub returns-in-Err : goal.returns-in-Err
returns-in-Err c = rw c.from.ensures (settled-full _ _ _ _ _ c.in-Emits.is _ _ c.store.ensures _ c.in-Err.is)
