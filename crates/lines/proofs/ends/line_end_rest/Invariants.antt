-- `lines::ends::line_end_rest` meets its contract: what is passed leaves the end where it is, and a block with an LF tells it.
use Rattle.std.proofs.Common.{◌-◌, ◌≤◌, ◌≡◌, length}
use Rattle.lines.specs.Lines.{line_end}
use Rattle.lines.proofs.ends.line_end_rest.Given as goal

abbrev pub invariant-loop-i : goal.invariant-loop-i
invariant-loop-i l = (l.i ≤ length l.s) × (line_end l.s l.i ≡ line_end l.s l.at)

abbrev pub decreases-loop-i : goal.decreases-loop-i
decreases-loop-i l = length l.s - l.i
