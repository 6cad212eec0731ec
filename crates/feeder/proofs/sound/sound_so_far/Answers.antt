-- `feeder::sound::sound_so_far` meets its contract: case by case.
use Rattle.feeder.specs.Calls.{sound_so_far}
use Rattle.feeder.proofs.sound.sound_so_far.Goals as goal

pub returns-in-Blank : goal.returns-in-Blank
unfolding sound_so_far
returns-in-Blank c = rw c.in-Blank.is

pub returns-in-Run : goal.returns-in-Run
unfolding sound_so_far
returns-in-Run c = rw (c.in-Run.is, c.sound_numbers.ensures, c.ends_before.ensures)

pub returns-in-Rows : goal.returns-in-Rows
unfolding sound_so_far
returns-in-Rows c = rw (c.in-Rows.is, c.sound_numbers-in-Rows.ensures)
