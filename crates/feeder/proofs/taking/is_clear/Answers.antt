-- `feeder::taking::is_clear` meets its contract: it makes the same tests.
use Rattle.std.proofs.Common.{refl}
use Rattle.feeder.specs.Turns.{no_bytes}
use Rattle.feeder.proofs.taking.is_clear.Goals as goal

pub returns : goal.returns
unfolding no_bytes
returns c = refl
