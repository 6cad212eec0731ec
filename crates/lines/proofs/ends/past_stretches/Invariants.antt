-- `lines::ends::past_stretches` meets its contract: a stretch without an LF leaves the end of the line where it is.
use Rattle.std.proofs.Common.{◌-◌, ◌≤◌, ◌≡◌, length}
use Rattle.lines.specs.Lines.{line_end}
use Rattle.lines.proofs.ends.past_stretches.Given as goal

abbrev pub invariant-loop-i : goal.invariant-loop-i
invariant-loop-i l = (l.i ≤ length l.s) × (line_end l.s l.i ≡ line_end l.s l.at)

abbrev pub decreases-loop-i : goal.decreases-loop-i
decreases-loop-i l = length l.s - l.i
