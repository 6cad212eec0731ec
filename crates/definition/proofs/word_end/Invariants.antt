-- `definition::word_end` meets its contract: a block without a low byte is in the run, and the run goes on behind it.
use Rattle.std.proofs.Common.{◌≤◌, ◌+◌, ◌-◌, ◌≡◌, false, length, drop}
use Rattle.definition.specs.Definition.{spaced, run}
use Rattle.definition.proofs.word_end.Given as goal

abbrev pub invariant-loop-i : goal.invariant-loop-i
invariant-loop-i l = (l.i ≤ length l.l) × (l.i + run (spaced false) (drop l.i l.l) ≡ l.at + run (spaced false) (drop l.at l.l))

abbrev pub decreases-loop-i : goal.decreases-loop-i
decreases-loop-i l = length l.l - l.i
