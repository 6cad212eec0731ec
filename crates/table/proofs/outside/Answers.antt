-- `table::outside` meets its contract: a span that begins past the bytes ends past them; else what is left behind its start decides.
use Rattle.table.specs.RowLaws.{past-start, past_end}
use Rattle.table.proofs.outside.Goals as goal

pub returns-then-all-start : goal.returns-then-all-start
returns-then-all-start c = past-start _ _ _ c.if-all-start.true

pub returns : goal.returns
returns c = past_end _ _ _ c.if-all-start.false
