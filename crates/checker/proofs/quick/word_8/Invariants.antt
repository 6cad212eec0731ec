-- `checker::quick::word_8` meets its contract: while `all` holds, the bytes so far are the same, and above a space.
use Rattle.std.proofs.Common.{◌-◌, ◌≤◌, ◌≡◌, true}
use Rattle.checker.specs.Quick.{WordAt}
use Rattle.checker.proofs.quick.word_8.Given as goal

abbrev pub invariant-loop-k : goal.invariant-loop-k
invariant-loop-k l = (l.k ≤ 8) × (l.all ≡ true → WordAt l.a l.i l.b l.i l.k)

abbrev pub decreases-loop-k : goal.decreases-loop-k
decreases-loop-k l = 8 - l.k
