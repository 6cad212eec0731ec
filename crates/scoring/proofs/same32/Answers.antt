-- `scoring::same32` meets its contract: of the places passed, so many are right.
use Rattle.std.proofs.Common.{arith}
use Rattle.scoring.specs.Counting.{agrees, counted_none, counted-more}
use Rattle.scoring.proofs.same32.Goals as goal

pub loop-j-init : goal.loop-j-init
loop-j-init c = counted_none _ _

pub overflow_add-right : goal.overflow_add-right
unfolding agrees
overflow_add-right c = let w = counted-more _ _ _ _ _ c.loop-j.invariant c.same_bit-right.ensures in omega (arith, w.most)

pub loop-j-preserved : goal.loop-j-preserved
unfolding agrees
loop-j-preserved c = counted-more _ _ _ _ _ c.loop-j.invariant c.same_bit-right.ensures
