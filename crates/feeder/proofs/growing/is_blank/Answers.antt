-- `feeder::growing::is_blank` meets its contract: case by case.
use Rattle.feeder.proofs.growing.is_blank.Goals as goal

pub returns-then-t : goal.returns-then-t
returns-then-t c = rw c.if-t.true

pub returns : goal.returns
returns c = rw c.if-t.false
