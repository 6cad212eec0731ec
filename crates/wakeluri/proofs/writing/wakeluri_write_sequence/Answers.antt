-- `wakeluri::writing::wakeluri_write_sequence` meets its contract: it gives the call's answer as numbers, and leaves the lent bytes as the call does.
use Rattle.wakeluri.specs.Laws.{written-told}
use Rattle.wakeluri.proofs.writing.wakeluri_write_sequence.Goals as goal

pub returns : goal.returns
returns c = written-told _ _ _ _ c.write_sequence-written.ensures c.from.ensures
