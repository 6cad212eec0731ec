-- `wakeluri::feeding::wakeluri_feed_start` meets its contract: case by case.
use Rattle.wakeluri.proofs.feeding.wakeluri_feed_start.Goals as goal

pub returns : goal.returns
returns c = rw (c.start.ensures, c.rule_by.ensures) at c.from.ensures
