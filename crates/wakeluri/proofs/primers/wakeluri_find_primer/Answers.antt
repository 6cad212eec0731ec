-- `wakeluri::primers::wakeluri_find_primer` meets its contract: it gives the call's answer as numbers.
use Rattle.std.proofs.Common.{ap, ◌∙◌}
use Rattle.wakeluri.specs.Primers.{place_answer}
use Rattle.wakeluri.proofs.primers.wakeluri_find_primer.Goals as goal

pub returns : goal.returns
returns c = c.from.ensures ∙ ap place_answer c.find_next.ensures
