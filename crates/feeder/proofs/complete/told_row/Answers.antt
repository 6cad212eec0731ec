-- `feeder::complete::told_row` meets its contract: case by case.
use Rattle.feeder.specs.Machine.{told_row}
use Rattle.feeder.proofs.complete.told_row.Goals as goal

pub returns-in-Blank : goal.returns-in-Blank
unfolding told_row
returns-in-Blank c = rw c.in-Blank.is c.row_alone.ensures

pub returns-in-Run : goal.returns-in-Run
unfolding told_row
returns-in-Run c = rw c.in-Run.is c.row.ensures

pub returns-in-Rows : goal.returns-in-Rows
unfolding told_row
returns-in-Rows c = rw c.in-Rows.is c.row-in-Rows.ensures
