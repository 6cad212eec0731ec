-- `table::bytes::row` meets its contract: that of a row of any kind.
use Rattle.table.specs.Rows.{row_at, used_at}
use Rattle.table.proofs.bytes.row.Goals as goal

pub returns : goal.returns
unfolding row_at used_at
returns c = c.row.ensures
