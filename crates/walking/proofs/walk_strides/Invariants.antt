-- `walking::walk_strides` meets its contract: the offsets of the bases passed, and those of the lines from `i` on, are all.
use Rattle.std.proofs.Common.{ℕ, ◌-◌, length}
use Rattle.walking.specs.Walk.{Onward}
use Rattle.walking.proofs.walk_strides.Given as goal

abbrev pub invariant-loop-layout : goal.invariant-loop-layout
invariant-loop-layout l = (p : ℕ) → Onward l.s l.at p l.layout.bases l.layout.width l.initial.i l.initial.walk → Onward l.s l.at p l.layout.bases l.layout.width l.i l.walk

abbrev pub decreases-loop-layout : goal.decreases-loop-layout
decreases-loop-layout l = length l.s - l.i
