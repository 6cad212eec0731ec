-- `wakeluri::feeding::no_opened` meets its contract: case by case.
use Rattle.wakeluri.proofs.feeding.no_opened.Goals as goal

pub returns : goal.returns
returns c = rw (c.no_span.ensures, c.no_span-2.ensures)
