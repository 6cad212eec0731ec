-- `wakeluri::bases::wakeluri_reverse_complement` meets its contract: it gives the call's answer as numbers, and leaves the lent bytes as the call does.
use Rattle.wakeluri.specs.Laws.{written-told}
use Rattle.wakeluri.proofs.bases.wakeluri_reverse_complement.Goals as goal

pub returns : goal.returns
returns c = written-told _ _ _ _ c.reverse_complement-told.ensures c.from.ensures
