-- `wakeluri::sheets::wakeluri_read_sheet` meets its contract: it gives the call's answer as numbers, and leaves the lent bytes as the call does.
use Rattle.wakeluri.specs.Sheets.{sheet-told}
use Rattle.wakeluri.proofs.sheets.wakeluri_read_sheet.Goals as goal

pub returns : goal.returns
returns c = sheet-told _ _ _ _ _ c.read_sheet-read.ensures c.from.ensures
