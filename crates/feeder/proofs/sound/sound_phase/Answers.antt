-- `feeder::sound::sound_phase` meets its contract: case by case.
use Rattle.feeder.specs.Calls.{sound_phase}
use Rattle.feeder.proofs.sound.sound_phase.Goals as goal

pub returns-in-Definition : goal.returns-in-Definition
unfolding sound_phase
returns-in-Definition c = rw c.in-Definition.is

pub returns-in-Lines : goal.returns-in-Lines
unfolding sound_phase
returns-in-Lines c = rw (c.in-Lines.is, c.sound_opened.ensures, c.sound_so_far.ensures)

pub returns-in-Halted : goal.returns-in-Halted
unfolding sound_phase
returns-in-Halted c = rw c.in-Halted.is

pub returns-in-Ended : goal.returns-in-Ended
unfolding sound_phase
returns-in-Ended c = rw c.in-Ended.is
