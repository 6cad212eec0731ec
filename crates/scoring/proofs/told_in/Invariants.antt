-- `scoring::told_in` meets its contract: where all of a part is told, what the look takes for right is right.
use Rattle.std.proofs.Common.{◌≤◌}
use Rattle.scoring.specs.Rules.{lies}
use Rattle.scoring.specs.Counting.{Counted, agrees}
use Rattle.scoring.proofs.told_in.Given as goal

abbrev pub invariant-loop-j : goal.invariant-loop-j
invariant-loop-j g l = (l.j ≤ l.n) × Counted (agrees lies l.places.key.now l.places.typed.now) l.at l.j l.right
