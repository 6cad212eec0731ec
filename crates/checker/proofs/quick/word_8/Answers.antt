-- `checker::quick::word_8` meets its contract: while `all` holds, the bytes so far are the same, and above a space.
use Rattle.std.proofs.Common.{◌≡◌, arith}
use Rattle.checker.specs.Quick.{word_none, word-tested}
use Rattle.checker.proofs.quick.word_8.Goals as goal

pub loop-k-init : goal.loop-k-init
loop-k-init c = (omega arith, λ _. word_none _ _ _ _)

pub loop-k-preserved : goal.loop-k-preserved
loop-k-preserved c =
    (omega arith, λ e. word-tested _ _ _ _ c.loop-k.k c.loop-k.all c.loop-k.invariant.1 e)

pub returns : goal.returns
returns c = let e : c.loop-k.k ≡ 8 = omega arith in rw e at c.loop-k.invariant.1
