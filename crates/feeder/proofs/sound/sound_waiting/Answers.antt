-- `feeder::sound::sound_waiting` meets its contract: case by case.
use Rattle.std.proofs.Common.{refl}
use Rattle.feeder.specs.Calls.{sound_waiting}
use Rattle.feeder.proofs.sound.sound_waiting.Goals as goal

pub returns : goal.returns
unfolding sound_waiting
returns c = refl
