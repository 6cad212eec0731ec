-- `indexer::Indexer::index_record` meets its contract: the size limit decides first.
use Rattle.std.proofs.Common.{sym, ◌∙◌}
use Rattle.indexer.specs.Index.{record_read}
use Rattle.indexer.proofs.Indexer.index_record.Goals as goal

pub returns-then-over_limit : goal.returns-then-over_limit
unfolding record_read
returns-then-over_limit c = c.of.ensures ∙ rw (sym c.over_limit.ensures ∙ c.if-over_limit.true)

pub returns : goal.returns
unfolding record_read
returns c = rw (sym c.over_limit.ensures ∙ c.if-over_limit.false) c.index_at.ensures
