-- `sequence::skip_ends` meets its contract: from `i` the CR and LF are skipped to the same place as from `at`.
use Rattle.std.proofs.Common.{◌-◌, ◌≡◌, length}
use Rattle.sequence.specs.Scan.{skip_to}
use Rattle.sequence.proofs.skip_ends.Given as goal

abbrev pub invariant-loop-i : goal.invariant-loop-i
invariant-loop-i l = skip_to l.s l.i ≡ skip_to l.s l.at

abbrev pub decreases-loop-i : goal.decreases-loop-i
decreases-loop-i l = length l.s - l.i
