-- `wakeluri::scan::wakeluri_read_sequence_limit` meets its contract: it gives the call's answer as numbers, and leaves the lent bytes as the call does.
use Rattle.wakeluri.specs.Laws.{sequence-told}
use Rattle.wakeluri.proofs.scan.wakeluri_read_sequence_limit.Goals as goal

pub returns : goal.returns
returns c = sequence-told _ _ _ _ c.read_sequence_limit-read.ensures c.from.ensures
