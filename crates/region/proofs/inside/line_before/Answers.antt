-- `region::inside::line_before` meets its contract: what is left of the last line is taken off, if anything is before it.
use Rattle.region.specs.PartLaws.{before_more, before-one}
use Rattle.region.proofs.inside.line_before.Goals as goal

pub returns-then-run-n : goal.returns-then-run-n
returns-then-run-n c = rw (← before_more c.args.x c.args.last.0 c.args.n _ c.in_line_to-run.ensures c.if-run-n.true)

pub returns : goal.returns
returns c = rw (← before-one c.args.x c.args.last.0 c.args.n _ c.in_line_to-run.ensures c.if-run-n.false)
