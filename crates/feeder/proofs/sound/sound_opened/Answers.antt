-- `feeder::sound::sound_opened` meets its contract: case by case.
use Rattle.std.proofs.Common.{refl}
use Rattle.feeder.specs.Calls.{sound_opened}
use Rattle.feeder.proofs.sound.sound_opened.Goals as goal

pub returns : goal.returns
unfolding sound_opened
returns c = refl
