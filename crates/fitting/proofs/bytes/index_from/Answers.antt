-- `fitting::bytes::index_from` meets its contract: the numbers of the table are filled, and its rest stays.
use Rattle.fitting.proofs.bytes.index_from.Goals as goal

pub returns : goal.returns
returns c = record { filled = c.fill_rows.ensures.filled; rest = c.fill_rows.ensures.rest }
