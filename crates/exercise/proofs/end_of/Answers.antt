-- `exercise::end_of` meets its contract: the test is the definition's own.
use Rattle.std.proofs.Common.{eq-eqb, ne_eqb}
use Rattle.exercise.specs.Reading.{ended}
use Rattle.exercise.proofs.end_of.Goals as goal

pub returns-then-kept-eq5 : goal.returns-then-kept-eq5
unfolding ended
returns-then-kept-eq5 c = rw (eq-eqb _ _ c.if-kept-eq5.true)

pub returns : goal.returns
unfolding ended
returns c = rw (ne_eqb _ _ c.if-kept-eq5.false)
