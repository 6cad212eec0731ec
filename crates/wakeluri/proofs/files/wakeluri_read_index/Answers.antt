-- `wakeluri::files::wakeluri_read_index` meets its contract: it gives the call's answer as numbers, and leaves the lent bytes as the call does.
use Rattle.wakeluri.specs.Laws.{filled-told}
use Rattle.wakeluri.proofs.files.wakeluri_read_index.Goals as goal

pub returns : goal.returns
returns c = filled-told _ _ _ _ _ c.read_index-filled.ensures c.from.ensures
