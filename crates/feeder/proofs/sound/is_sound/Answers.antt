-- `feeder::sound::is_sound` meets its contract: case by case.
use Rattle.feeder.specs.Calls.{sound_of}
use Rattle.feeder.proofs.sound.is_sound.Goals as goal

pub returns : goal.returns
unfolding sound_of
returns c = rw (c.sound_phase.ensures, c.sound_waiting.ensures)
