-- `scoring::second_in` meets its contract: the letters alone tell the first places, and the rest has a function of its own.
use Rattle.std.proofs.Common.{◌+◌, ◌-◌, ◌≡◌, arith, length}
use Rattle.scoring.specs.Counting.{counted-onward}
use Rattle.scoring.proofs.second_in.Goals as goal

pub overflow_add-result : goal.overflow_add-result
overflow_add-result c = let w = counted-onward _ _ _ _ _ c.told_in-first.ensures.1 c.second_rest.ensures in omega (arith, w.most)

pub returns : goal.returns
returns c =
    let n = length c.args.places.now.key.now in
    let q : c.told_in-first.result.places + (n - c.told_in-first.result.places) ≡ n = omega arith in
    rw q at (counted-onward _ _ _ _ _ c.told_in-first.ensures.1 c.second_rest.ensures)
