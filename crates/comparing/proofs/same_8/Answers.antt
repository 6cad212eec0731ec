-- `comparing::same_8` meets its contract: at each place `all` says whether the bytes so far are the same.
use Rattle.std.proofs.Common.{arith}
use Rattle.comparing.specs.Laws.{block_none, block_more}
use Rattle.comparing.proofs.same_8.Goals as goal

pub loop-k-init : goal.loop-k-init
loop-k-init c = block_none c.args.a.now c.args.b.now

pub loop-k-preserved : goal.loop-k-preserved
loop-k-preserved c = block_more c.args.a.now c.args.b.now c.loop-k.k c.loop-k.all (omega arith) (omega arith) c.loop-k.invariant
