-- `lines::blocks::lf_in_either` meets its contract: at each place `any` says whether the bytes so far of the two blocks hold an LF.
use Rattle.std.proofs.Common.{arith}
use Rattle.lines.specs.Blocks.{either-none, either-more}
use Rattle.lines.proofs.blocks.lf_in_either.Goals as goal

pub loop-k-init : goal.loop-k-init
loop-k-init g c = either-none _ _ _

pub loop-k-preserved : goal.loop-k-preserved
loop-k-preserved g c = either-more _ _ _ _ _ (omega arith) (omega arith) c.loop-k.invariant
