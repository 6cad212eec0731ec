-- `scoring::lanes::total` meets its contract: the words are the sum of their bytes, and times 255.
use Rattle.std.proofs.Common.{ℕ, ◌+◌, ◌*◌, ◌≤◌, ◌≡◌, get_or}
use Rattle.scoring.specs.Lanes.{sum_to}
use Rattle.scoring.proofs.lanes.total.Given as goal

abbrev pub invariant-loop-i : goal.invariant-loop-i
invariant-loop-i l = (l.x ≤ l.i * 506381209866536711) × ((m : ℕ) × (l.x ≡ 255 * m + sum_to (λ k. get_or l.lanes k 0) (8 * l.i)))
