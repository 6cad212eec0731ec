-- `checker::quick::same_word` meets its contract: the blocks cover every byte, and the last may overlap the one before.
use Rattle.std.proofs.Common.{◌-◌, ◌≤◌, length}
use Rattle.checker.specs.Quick.{WordAt}
use Rattle.checker.proofs.quick.same_word.Given as goal

abbrev pub invariant-loop-i : goal.invariant-loop-i
invariant-loop-i l = (l.i ≤ length l.a) × (WordAt l.a 0 l.b 0 l.i)

abbrev pub decreases-loop-i : goal.decreases-loop-i
decreases-loop-i l = length l.a - l.i
