-- `lines::ends::line_end_near` meets its contract: the end of the line at `i` stays the end of the line at `at`.
use Rattle.std.proofs.Common.{◌≡◌}
use Rattle.lines.specs.Lines.{line_end}
use Rattle.lines.proofs.ends.line_end_near.Given as goal

abbrev pub invariant-loop-i : goal.invariant-loop-i
invariant-loop-i l = line_end l.s l.i ≡ line_end l.s l.at
