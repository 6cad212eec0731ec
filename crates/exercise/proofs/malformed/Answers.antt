-- `exercise::malformed` meets its contract.
use Rattle.std.proofs.Common.{refl}
use Rattle.exercise.specs.Reading.{bad}
use Rattle.exercise.proofs.malformed.Goals as goal

pub returns : goal.returns
unfolding bad
returns c = refl
