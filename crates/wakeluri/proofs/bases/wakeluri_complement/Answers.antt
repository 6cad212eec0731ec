-- `wakeluri::bases::wakeluri_complement` meets its contract: it gives the call's answer as numbers, and leaves the lent bytes as the call does.
use Rattle.wakeluri.specs.Laws.{written-told}
use Rattle.wakeluri.proofs.bases.wakeluri_complement.Goals as goal

pub returns : goal.returns
returns c = written-told _ _ _ _ c.complement-told.ensures c.from.ensures
