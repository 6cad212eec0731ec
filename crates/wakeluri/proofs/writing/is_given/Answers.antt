-- `wakeluri::writing::is_given` meets its contract: it is what the flag's definition says.
use Rattle.std.proofs.Common.{refl}
use Rattle.wakeluri.specs.Answer.{given_by}
use Rattle.wakeluri.proofs.writing.is_given.Goals as goal

pub returns : goal.returns
unfolding given_by
returns c = refl
