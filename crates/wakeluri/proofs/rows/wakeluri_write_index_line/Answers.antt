-- `wakeluri::rows::wakeluri_write_index_line` meets its contract: it gives the call's answer as numbers, and leaves the lent bytes as the call does.
use Rattle.wakeluri.specs.Laws.{written-told}
use Rattle.table.specs.Rows.{named_at}
use Rattle.index_line.specs.IndexLine.{written_as}
use Rattle.wakeluri.proofs.rows.wakeluri_write_index_line.Goals as goal

pub returns : goal.returns
unfolding written_as named_at
returns c = written-told _ _ _ _ (rw c.used_row.ensures at c.write_line-written.ensures) c.from.ensures
