-- `scoring::slices::cut_at` meets its contract: of the lanes passed, so many places are right, if all letters have a code.
use Rattle.std.proofs.Common.{◌+◌, ◌*◌, ◌≤◌, ◌≡◌}
use Rattle.scoring.specs.Rules.{lies}
use Rattle.scoring.specs.Places.{count_below}
use Rattle.scoring.specs.Counting.{agrees}
use Rattle.scoring.specs.Lanes.{sum_to}
use Rattle.scoring.proofs.slices.cut_at.Given as goal

abbrev pub invariant-loop-l : goal.invariant-loop-l
invariant-loop-l l = (l.right ≤ 8 * l.l) × (l.coded ≤ 255) × (l.coded ≡ 255 → l.right ≡ sum_to (λ i. count_below (λ j. agrees lies l.places.key.now l.places.typed.now (l.at + 16 * j + i)) 8) l.l)
