-- `scoring::open_in` meets its contract: part by part, and then by slices.
use Rattle.std.proofs.Common.{◌-◌, ◌≤◌}
use Rattle.scoring.specs.Rules.{lies}
use Rattle.scoring.specs.Counting.{Counted, agrees}
use Rattle.scoring.proofs.open_in.Given as goal

abbrev pub invariant-loop-j : goal.invariant-loop-j
invariant-loop-j l = (l.j ≤ l.n) × Counted (agrees lies l.places.key.now l.places.typed.now) l.at l.j l.right

abbrev pub decreases-loop-j : goal.decreases-loop-j
decreases-loop-j l = l.n - l.j
