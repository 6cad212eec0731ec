-- `wakeluri::primers::wakeluri_degeneracy` meets its contract: it gives the call's answer as numbers.
use Rattle.std.proofs.Common.{ap, ◌∙◌}
use Rattle.wakeluri.specs.Primers.{counted_answer}
use Rattle.wakeluri.proofs.primers.wakeluri_degeneracy.Goals as goal

pub returns : goal.returns
returns c = c.from.ensures ∙ ap counted_answer c.degeneracy.ensures
