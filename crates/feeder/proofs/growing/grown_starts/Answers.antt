-- `feeder::growing::grown_starts` meets its contract: case by case.
use Rattle.std.proofs.Common.{eq-eqb, ne_eqb}
use Rattle.indexer.specs.LineSums.{grow}
use Rattle.feeder.proofs.growing.grown_starts.Goals as goal

pub returns-then-t-eq0 : goal.returns-then-t-eq0
unfolding grow
returns-then-t-eq0 c = rw (eq-eqb _ _ c.if-t-eq0.true) c.begins_record.ensures

pub returns : goal.returns
unfolding grow
returns c = rw (ne_eqb _ _ c.if-t-eq0.false)
