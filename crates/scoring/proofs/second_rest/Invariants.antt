-- `scoring::second_rest` meets its contract: each look goes on where the one before ended, and that by blocks goes on.
use Rattle.std.proofs.Common.{◌-◌, ◌≤◌}
use Rattle.scoring.specs.Rules.{lies}
use Rattle.scoring.specs.Counting.{Counted, agrees}
use Rattle.scoring.proofs.second_rest.Given as goal

abbrev pub invariant-loop-j : goal.invariant-loop-j
invariant-loop-j l = (l.j ≤ l.n) × Counted (agrees lies l.places.key.now l.places.typed.now) l.at l.j l.right

abbrev pub decreases-loop-j : goal.decreases-loop-j
decreases-loop-j l = l.n - l.j
