-- `wakeluri::qualities::no_row` meets its contract: it is no record, with no qualities.
use Rattle.wakeluri.proofs.qualities.no_row.Goals as goal

pub returns : goal.returns
returns c = rw c.no_record.ensures
