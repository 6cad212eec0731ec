-- `parts::record_start` meets its contract: behind the lines that are passed the sequence lines end where they ended before.
use Rattle.std.proofs.Common.{◌-◌, ◌≡◌, length}
use Rattle.parts.specs.Parts.{record_start}
use Rattle.parts.specs.Laws.{behind}
use Rattle.parts.proofs.record_start.Given as goal

abbrev pub invariant-loop-i : goal.invariant-loop-i
invariant-loop-i l = behind l.s l.i ≡ record_start l.s l.n

abbrev pub decreases-loop-i : goal.decreases-loop-i
decreases-loop-i l = length l.s - l.i
