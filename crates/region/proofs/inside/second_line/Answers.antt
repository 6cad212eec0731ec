-- `region::inside::second_line` meets its contract: the second line begins behind the bases of the first, if there is one.
use Rattle.region.specs.PartLaws.{second_more, second-one}
use Rattle.region.proofs.inside.second_line.Goals as goal

pub returns-then-run-n : goal.returns-then-run-n
returns-then-run-n c = rw (← second_more c.args.x c.args.a.0 c.args.n _ c.in_line-run.ensures c.if-run-n.true)

pub returns : goal.returns
returns c = rw (← second-one c.args.x c.args.a.0 c.args.n _ c.in_line-run.ensures c.if-run-n.false)
