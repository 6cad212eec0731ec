-- `fastq_table::qualities` meets its contract: the row is read where the table has it.
use Rattle.std.proofs.Common.{ap, arith}
use Rattle.fastq.specs.declared.QualityRow.{QualityRow}
use Rattle.table.specs.KindLaws.{Inside, row_inside}
use Rattle.fastq_table.specs.Rows.{row_at, quality_rows}
use Rattle.fastq_table.specs.RowLaws.{qualities-none, qualities-some}
use Rattle.fastq_table.proofs.qualities.Goals as goal
use Rattle.fastq_table.proofs.qualities.Goals.{Else-rows-row}

pub returns-then-rows-row : goal.returns-then-rows-row
returns-then-rows-row c = qualities-none _ _ (rw c.rows.ensures at c.if-rows-row.true)

-- the row is inside the table
inside : (c : Else-rows-row) → let a = c.args in Inside quality_rows a.table.now a.row
inside c = row_inside quality_rows _ _ _ c.rows.ensures c.if-rows-row.false

pub overflow_mul-row : goal.overflow_mul-row
overflow_mul-row c = omega (arith, inside (goal.at.overflow_mul-row c).Else-rows-row)

pub read-x-requires : goal.read-x-requires
read-x-requires c = omega (arith, inside (goal.at.read-x-requires c).Else-rows-row)

pub returns : goal.returns
unfolding row_at
returns c =
    qualities-some _ _ (rw c.rows.ensures at c.if-rows-row.false) _ (ap (λ (x : QualityRow). x.qualities) c.read-x.ensures)
