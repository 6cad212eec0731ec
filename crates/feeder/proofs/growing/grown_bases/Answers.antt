-- `feeder::growing::grown_bases` meets its contract: case by case.
use Rattle.std.proofs.Common.{sym, ◌∙◌, arith}
use Rattle.indexer.specs.LineSums.{grow}
use Rattle.lines.specs.Lines.{chop}
use Rattle.lines.specs.Laws.{chop-le}
use Rattle.feeder.proofs.growing.grown_bases.Goals as goal

pub returns-then-is_end_alone : goal.returns-then-is_end_alone
unfolding grow
returns-then-is_end_alone c = rw (sym c.is_end_alone.ensures ∙ c.if-is_end_alone.true)

pub overflow_add-result : goal.overflow_add-result
overflow_add-result c = omega (arith, c.requires, c.base_count.ensures, chop-le 13 (chop 10 c.args.l.now), chop-le 10 c.args.l.now)

pub returns : goal.returns
unfolding grow
returns c = rw (sym c.is_end_alone.ensures ∙ c.if-is_end_alone.false, c.base_count.ensures)
