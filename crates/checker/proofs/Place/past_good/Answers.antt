-- `checker::Place::past_good` meets its contract: each record that is passed leads to what the place before it leads to.
use Rattle.std.proofs.Common.{◌+◌, arith}
use Rattle.checker.specs.Steps.{Moved}
use Rattle.checker.specs.Quick.{past-none, past-on, past_more}
use Rattle.checker.proofs.Place.past_good.Goals as goal
use Rattle.checker.proofs.Place.past_good.Goals.{In-Some}

pub loop-passed-init : goal.loop-passed-init
loop-passed-init c = past-none _ _ _ c.requires.0 c.requires.1

-- the next place
moved : (c : In-Some)
    → let a = c.args in
    Moved a.fasta.now a.index.now c.loop-passed.w (record { fasta = c.in-Some.passed.fasta; index = c.in-Some.passed.index; records = c.loop-passed.w.records + 1 })
moved c = past-on _ _ _ _ c.loop-passed.invariant _ c.in-Some.ensures

pub overflow_add-w : goal.overflow_add-w
overflow_add-w c = omega (arith, moved (goal.at.overflow_add-w c).In-Some, c.loop-passed.invariant)

pub loop-passed-smaller : goal.loop-passed-smaller
loop-passed-smaller c = omega (arith, moved (goal.at.loop-passed-smaller c).In-Some)

pub loop-passed-preserved : goal.loop-passed-preserved
loop-passed-preserved c = past_more _ _ _ _ _ c.loop-passed.invariant (moved (goal.at.loop-passed-preserved c).In-Some)
