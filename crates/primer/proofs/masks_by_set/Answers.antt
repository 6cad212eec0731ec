-- `primer::masks_by_set`: the masks of the sets passed are right.
use Rattle.std.proofs.Common.{arith, rules, length-set}
use Rattle.primer.specs.Live.{mask_by}
use Rattle.primer.specs.Filled.{filled}
use Rattle.primer.proofs.masks_by_set.Goals as goal

pub loop-t-init : goal.loop-t-init
loop-t-init c = (search rules, λ k h. absurd (omega arith))

pub loop-t-preserved : goal.loop-t-preserved
loop-t-preserved c =
    (simp length-set (omega arith), filled (mask_by c.args.primer.now) c.loop-t.masks c.loop-t.t _ (omega arith) c.loop-t.invariant.1 c.mask_of.ensures)

pub returns : goal.returns
returns c = λ t h. c.loop-t.invariant.1 t (omega arith)
