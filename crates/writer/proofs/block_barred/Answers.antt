-- `writer::block_barred` meets its contract: where all bytes have the bit 64, none is barred.
use Rattle.std.proofs.Common.{sym}
use Rattle.writer.proofs.block_barred.Goals as goal

pub returns-then-all_high : goal.returns-then-all_high
returns-then-all_high c = sym (c.all_high.ensures c.if-all_high.true)

pub returns : goal.returns
returns c = c.any_listed.ensures
