-- `fitting::index_file` meets its contract: the table is filled with the rows that the rule finds.
use Rattle.indexer.specs.Rule.{call_by}
use Rattle.fitting.proofs.index_file.Goals as goal

pub returns : goal.returns
unfolding call_by
returns c = c.fill.ensures.filled
