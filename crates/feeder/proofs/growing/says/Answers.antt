-- `feeder::growing::says` meets its contract: case by case.
use Rattle.std.proofs.Common.{sym, ◌∙◌}
use Rattle.feeder.specs.CodeLaws.{named_none, named_some}
use Rattle.indexer.specs.LineSums.{sum_says}
use Rattle.feeder.proofs.growing.says.Goals as goal

pub returns-then-is_blank : goal.returns-then-is_blank
unfolding sum_says
returns-then-is_blank c = rw (sym c.is_blank.ensures ∙ c.if-is_blank.true)

pub returns-then-t-eq0 : goal.returns-then-t-eq0
unfolding sum_says
returns-then-t-eq0 c = rw (sym c.is_blank.ensures ∙ c.if-is_blank.false, c.if-t.true, c.if-t-eq0.true)

pub returns-then-t-2 : goal.returns-then-t-2
unfolding sum_says
returns-then-t-2 c = rw (sym c.is_blank.ensures ∙ c.if-is_blank.false, c.if-t.true) (named_none _ _ _ c.if-t-eq0.false c.if-t-2.true)

pub returns-then-t : goal.returns-then-t
unfolding sum_says
returns-then-t c = rw (sym c.is_blank.ensures ∙ c.if-is_blank.false, c.if-t.true) (named_some _ _ _ c.if-t-eq0.false c.if-t-2.false)

pub returns : goal.returns
unfolding sum_says
returns c = rw (sym c.is_blank.ensures ∙ c.if-is_blank.false, c.if-t.false)
