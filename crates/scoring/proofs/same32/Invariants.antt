-- `scoring::same32` meets its contract: of the places passed, so many are right.
use Rattle.scoring.specs.Rules.{same}
use Rattle.scoring.specs.Counting.{Counted, agrees}
use Rattle.scoring.proofs.same32.Given as goal

abbrev pub invariant-loop-j : goal.invariant-loop-j
invariant-loop-j l = Counted (agrees same l.places.key.now l.places.typed.now) l.at l.j l.right
