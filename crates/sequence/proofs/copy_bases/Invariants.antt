-- `sequence::copy_bases` meets its contract: what a scan from `i` for the rest writes behind `to` bytes of the output as it is now,
-- equals what the whole scan writes into the output as it was.
use Rattle.std.proofs.Common.{◌+◌, ◌-◌, ◌≤◌, ◌≡◌, length}
use Rattle.sequence.specs.Scan.{scan_at}
use Rattle.sequence.specs.Read.{written}
use Rattle.sequence.specs.Laws.{filled}
use Rattle.sequence.proofs.copy_bases.Given as goal

abbrev pub invariant-loop-to : goal.invariant-loop-to
invariant-loop-to l =
    (l.to ≤ l.limit)
    × (length l.out ≡ length l.initial.out)
    × (l.to + length (scan_at l.s (l.limit - l.to) l.i).bases ≤ length l.initial.out)
    × (filled l.to l.out (scan_at l.s (l.limit - l.to) l.i) ≡ written (scan_at l.s l.limit l.at) l.initial.out)

abbrev pub decreases-loop-to : goal.decreases-loop-to
decreases-loop-to l = l.limit - l.to
