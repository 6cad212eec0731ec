-- `checker::quick::clear_to` meets its contract: the blocks cover every byte, and the last may overlap those before.
use Rattle.std.proofs.Common.{◌-◌, ◌≤◌}
use Rattle.checker.specs.Quick.{NoLf}
use Rattle.checker.proofs.quick.clear_to.Given as goal

abbrev pub invariant-loop-i : goal.invariant-loop-i
invariant-loop-i l = (l.i ≤ l.to) × (NoLf l.s l.from l.i)

abbrev pub decreases-loop-i : goal.decreases-loop-i
decreases-loop-i l = l.to - l.i
