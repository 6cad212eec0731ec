-- `fitting::bytes::index_file` meets its contract: a table that is known by its numbers and its rest is known to the byte.
use Rattle.std.proofs.Common.{arith}
use Rattle.table.specs.ByteLaws.{filled-bytes}
use Rattle.indexer.specs.Rule.{call_by}
use Rattle.fitting.proofs.bytes.index_file.Goals as goal

pub returns : goal.returns
unfolding call_by
returns c = filled-bytes _ _ _ _ (record { filled = c.fill.ensures.filled; rest = c.fill.ensures.rest }) (λ i. omega (arith, c.type_inv.table i))
