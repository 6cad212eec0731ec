-- `sheet::bytes::Lent` asks first whether the table has the rows in use, and then whether the row is in use.
use Rattle.std.proofs.Common.{arith}
use Rattle.table.specs.RowLaws.{used-lacking, used-unused, used-row}
use Rattle.table.specs.ByteLaws.{row_inside}
use Rattle.sheet.proofs.bytes.LentSource.row.Goals as goal

pub returns-then-all-self : goal.returns-then-all-self
returns-then-all-self c = rw c.rows-all.ensures (used-lacking _ _ _ (omega arith))

pub returns-then-self-row : goal.returns-then-self-row
returns-then-self-row c = used-unused _ _ _ (omega arith) c.if-self-row.true

pub record_at-requires : goal.record_at-requires
record_at-requires c =
    let s = c.args.self.now in
    (row_inside s.table.now c.args.row _ c.rows-all.ensures (omega arith)).row

pub returns : goal.returns
returns c = rw c.record_at.ensures (used-row _ _ _ (omega arith) (omega arith))
