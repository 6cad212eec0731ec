-- `feeder::taking::ready` meets its contract: case by case.
use Rattle.feeder.specs.Turns.{ready-whole, ready-open}
use Rattle.feeder.proofs.taking.ready.Goals as goal

pub returns-then-f : goal.returns-then-f
returns-then-f c = ready-whole _ _ _ _ _ _ _ c.if-f.true c.judge-out.ensures c.settle-s.ensures c.no_line.ensures

pub returns : goal.returns
returns c = ready-open _ _ _ c.if-f.false
