-- `sequence::count_bases` meets its contract: `n` and what a scan from `i` for the rest gives make what the whole scan gives.
use Rattle.std.proofs.Common.{◌+◌, ◌-◌, ◌≤◌, ◌≡◌, length}
use Rattle.sequence.specs.Scan.{scan_at}
use Rattle.sequence.proofs.count_bases.Given as goal

abbrev pub invariant-loop-n : goal.invariant-loop-n
invariant-loop-n l = (l.n ≤ l.limit) × (l.n + length (scan_at l.s (l.limit - l.n) l.i).bases ≡ length (scan_at l.s l.limit l.at).bases)

abbrev pub decreases-loop-n : goal.decreases-loop-n
decreases-loop-n l = l.limit - l.n
