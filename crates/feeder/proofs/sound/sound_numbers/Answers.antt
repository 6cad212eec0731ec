-- `feeder::sound::sound_numbers` meets its contract: case by case.
use Rattle.std.proofs.Common.{refl}
use Rattle.feeder.specs.Calls.{sound_numbers}
use Rattle.feeder.proofs.sound.sound_numbers.Goals as goal

pub returns : goal.returns
unfolding sound_numbers
returns c = refl
