-- `wakeluri::files::wakeluri_index_file` meets its contract: it gives the answer of the call by the original's rule as numbers, and leaves the table as that call does.
use Rattle.wakeluri.specs.Laws.{filled-told}
use Rattle.wakeluri.proofs.files.wakeluri_index_file.Goals as goal

pub returns : goal.returns
returns c = filled-told _ _ _ _ _ c.index_file-filled.ensures c.from.ensures
