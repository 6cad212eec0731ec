-- `scoring::second_rest` meets its contract: each look goes on where the one before ended, and that by blocks goes on.
use Rattle.std.proofs.Common.{◌+◌, ◌≡◌, arith}
use Rattle.scoring.specs.Rules.{lies}
use Rattle.scoring.specs.Counting.{Counted, agrees, counted-join}
use Rattle.scoring.proofs.second_rest.Goals as goal
use Rattle.scoring.proofs.second_rest.Goals.{After-struct_known-1, After-struct_known-in-loop-j-2-1}

-- after the blocks
looked : (c : After-struct_known-1)
    → Counted (agrees lies c.args.places.now.key.now c.args.places.now.typed.now)
    c.args.at (c.loop-j.j + c.open_in-looked.result.places)
    (c.loop-j.right + c.open_in-looked.result.right)
looked c = counted-join _ _ _ _ _ _ c.loop-j.invariant.1 c.open_in-looked.ensures.2

-- after the clear parts behind them
cleared : (c : After-struct_known-in-loop-j-2-1)
    → Counted (agrees lies c.args.places.now.key.now
    c.args.places.now.typed.now)
    c.args.at
    (c.loop-j.j + c.open_in-looked.result.places + c.told_in-clear.result.places)
    (c.loop-j.right + c.open_in-looked.result.right + c.told_in-clear.result.right)
cleared c = counted-join _ _ _ _ _ _ (let looked : Counted (agrees lies c.args.places.now.key.now c.args.places.now.typed.now)
    c.args.at (c.loop-j.j + c.open_in-looked.result.places)
    (c.loop-j.right + c.open_in-looked.result.right) = counted-join _ _ _ _ _ _ c.loop-j.invariant.1 c.open_in-looked.ensures.2 in looked) c.told_in-clear.ensures.1

pub loop-j-init : goal.loop-j-init
loop-j-init c = c.told_in-first.ensures

pub overflow_add-right : goal.overflow_add-right
overflow_add-right c = let w = looked (goal.at.overflow_add-right c).After-struct_known-1 in omega (arith, w.most, c.open_in-looked.ensures.0)

pub overflow_add-j : goal.overflow_add-j
overflow_add-j c = omega (arith, c.open_in-looked.ensures.0)

pub overflow_add-at-in-loop-j : goal.overflow_add-at-in-loop-j
overflow_add-at-in-loop-j c = omega (arith, c.open_in-looked.ensures.0)

pub overflow_sub-n-in-loop-j : goal.overflow_sub-n-in-loop-j
overflow_sub-n-in-loop-j c = omega (arith, c.open_in-looked.ensures.0)

pub told_in-clear-requires : goal.told_in-clear-requires
told_in-clear-requires c = omega (arith, c.open_in-looked.ensures.0)

pub overflow_add-right-in-loop-j : goal.overflow_add-right-in-loop-j
overflow_add-right-in-loop-j c = let w = cleared (goal.at.overflow_add-right-in-loop-j c).After-struct_known-in-loop-j-2-1 in omega (arith, w.most, c.open_in-looked.ensures.0, c.told_in-clear.ensures.0)

pub overflow_add-j-in-loop-j : goal.overflow_add-j-in-loop-j
overflow_add-j-in-loop-j c = omega (arith, c.open_in-looked.ensures.0, c.told_in-clear.ensures.0)

pub loop-j-smaller : goal.loop-j-smaller
loop-j-smaller c =
    omega (arith, c.open_in-looked.ensures.0, c.open_in-looked.ensures.1 (omega arith), c.told_in-clear.ensures.0)

pub loop-j-preserved : goal.loop-j-preserved
loop-j-preserved c = (omega (arith, c.open_in-looked.ensures.0, c.told_in-clear.ensures.0), cleared (goal.at.loop-j-preserved c).After-struct_known-in-loop-j-2-1)

pub returns : goal.returns
returns c = let q : c.loop-j.j ≡ c.args.n = omega arith in rw q at c.loop-j.invariant.1
