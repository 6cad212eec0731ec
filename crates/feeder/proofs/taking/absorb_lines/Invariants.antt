-- `feeder::taking::absorb_lines` meets its contract: what the piece from `i` on still leaves is what it leaves from the start.
use Rattle.std.proofs.Common.{◌+◌, ◌-◌, ◌^◌, ◌≤◌, ◌≡◌, length}
use Rattle.feeder.specs.Small.{FitsWithin}
use Rattle.feeder.specs.CodeLaws.{FeedOn}
use Rattle.feeder.proofs.taking.absorb_lines.Given as goal

abbrev pub invariant-loop-i : goal.invariant-loop-i
invariant-loop-i l = (length l.table ≡ length l.initial.table) × (l.i ≤ length l.p) × FitsWithin (2 ^ 41 + l.i) l.fed.phase l.fed.waiting × FeedOn l.rule l.initial.fed l.p l.initial.table l.fed l.i l.table

abbrev pub decreases-loop-i : goal.decreases-loop-i
decreases-loop-i l = length l.p - l.i
