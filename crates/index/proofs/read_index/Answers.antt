-- `index::read_index` meets its contract: the table is filled with the lines of the index.
use Rattle.index.specs.Index.{index_in}
use Rattle.index.proofs.read_index.Goals as goal

pub returns : goal.returns
unfolding index_in
returns c = c.fill.ensures.filled
