-- `wakeluri::writing::wakeluri_write_record` meets its contract: it gives the call's answer as numbers, and leaves the lent bytes as the call does.
use Rattle.wakeluri.specs.Laws.{written-told}
use Rattle.wakeluri.proofs.writing.wakeluri_write_record.Goals as goal

pub returns : goal.returns
returns c =
    rw (← c.is_given-described.ensures)
    (written-told _ _ _ _ c.write_record-written.ensures c.from.ensures)
