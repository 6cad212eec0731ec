-- `scoring::run` meets its contract: of the places passed, so many are right.
use Rattle.scoring.specs.Counting.{Counted, agrees}
use Rattle.scoring.proofs.run.Given as goal

abbrev pub invariant-loop-j : goal.invariant-loop-j
invariant-loop-j g l = Counted (agrees g.R.Rule.says l.places.key.now l.places.typed.now) l.at l.j l.right
