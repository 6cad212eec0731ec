-- `wakeluri::cores::wakeluri_index_part` meets its contract: what the call by the rule answers is told, and what it leaves is left.
use Rattle.wakeluri.specs.Laws.{filled-told}
use Rattle.wakeluri.proofs.cores.wakeluri_index_part.Goals as goal

pub returns : goal.returns
returns c =
    filled-told _ _ _ _ _ (rw c.rule_by-rule.ensures at c.index_part-filled.ensures) c.from.ensures
