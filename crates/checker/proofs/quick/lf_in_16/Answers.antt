-- `checker::quick::lf_in_16` meets its contract: while `any` does not hold, none of the bytes so far is an LF.
use Rattle.std.proofs.Common.{◌≡◌, arith, add-zero}
use Rattle.checker.specs.Quick.{clear_none, clear-tested}
use Rattle.checker.proofs.quick.lf_in_16.Goals as goal

pub loop-k-init : goal.loop-k-init
loop-k-init c = (omega arith, λ _. rw (add-zero c.args.i) (clear_none _ _))

pub loop-k-preserved : goal.loop-k-preserved
loop-k-preserved c =
    (omega arith, λ e. clear-tested _ _ c.loop-k.k c.loop-k.any c.loop-k.invariant.1 e)

pub returns : goal.returns
returns c = let e : c.loop-k.k ≡ 16 = omega arith in rw e at c.loop-k.invariant.1
