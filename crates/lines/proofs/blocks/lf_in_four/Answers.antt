-- `lines::blocks::lf_in_four` meets its contract: at each place `any` says whether the bytes so far of the four blocks hold an LF.
use Rattle.std.proofs.Common.{arith}
use Rattle.lines.specs.Abreast.{four-none, four-more}
use Rattle.lines.proofs.blocks.lf_in_four.Goals as goal

pub loop-k-init : goal.loop-k-init
loop-k-init g c = four-none _ _ _ _ _

pub loop-k-preserved : goal.loop-k-preserved
loop-k-preserved g c = four-more _ _ _ _ _ _ _ (omega arith) (omega arith) (omega arith) (omega arith) c.loop-k.invariant
