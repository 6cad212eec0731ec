-- `scoring::by_letters::seen_in` meets its contract: of the places passed, so many are right, and so many are told.
use Rattle.std.proofs.Common.{arith}
use Rattle.scoring.specs.Counting.{agrees, counted_none, counted-more}
use Rattle.scoring.proofs.by_letters.seen_in.Goals as goal

pub loop-j-init : goal.loop-j-init
loop-j-init g c = (counted_none _ _, counted_none _ _)

pub overflow_add-right : goal.overflow_add-right
unfolding agrees
overflow_add-right g c = let w = counted-more _ _ _ _ _ c.loop-j.invariant.0 c.right_bit-right.ensures in omega (arith, w.most)

pub overflow_add-told : goal.overflow_add-told
unfolding agrees
overflow_add-told g c = let w = counted-more _ _ _ _ _ c.loop-j.invariant.1 c.told_bit-told.ensures in omega (arith, w.most)

pub loop-j-preserved : goal.loop-j-preserved
unfolding agrees
loop-j-preserved g c =
    (counted-more _ _ _ _ _ c.loop-j.invariant.0 c.right_bit-right.ensures, counted-more _ _ _ _ _ c.loop-j.invariant.1 c.told_bit-told.ensures)
