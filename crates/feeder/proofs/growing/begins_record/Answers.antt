-- `feeder::growing::begins_record` meets its contract: case by case.
use Rattle.feeder.specs.CodeLaws.{begins-none, begins-first}
use Rattle.feeder.proofs.growing.begins_record.Goals as goal

pub returns-then-l-eq0 : goal.returns-then-l-eq0
returns-then-l-eq0 c = begins-none c.args.l.now c.if-l-eq0.true

pub returns : goal.returns
returns c = begins-first c.args.l.now c.if-l-eq0.false
