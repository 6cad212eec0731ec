-- `feeder::passing::is_same` meets its contract: it makes the same tests.
use Rattle.std.proofs.Common.{refl}
use Rattle.feeder.specs.Passing.{same_line}
use Rattle.feeder.proofs.passing.is_same.Goals as goal

pub returns : goal.returns
unfolding same_line
returns c = refl
