-- `scoring::by_letters::seen_in` meets its contract: of the places passed, so many are right, and so many are told.
use Rattle.scoring.specs.Counting.{Counted, agrees}
use Rattle.scoring.proofs.by_letters.seen_in.Given as goal

abbrev pub invariant-loop-j : goal.invariant-loop-j
invariant-loop-j g l = Counted (agrees g.L.Look.right l.places.key.now l.places.typed.now) l.at l.j l.right × Counted (agrees g.L.Look.tells l.places.key.now l.places.typed.now) l.at l.j l.told
