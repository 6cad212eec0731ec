-- `checker::quick::lf_in_16` meets its contract: while `any` does not hold, none of the bytes so far is an LF.
use Rattle.std.proofs.Common.{◌+◌, ◌-◌, ◌≤◌, ◌≡◌, false}
use Rattle.checker.specs.Quick.{NoLf}
use Rattle.checker.proofs.quick.lf_in_16.Given as goal

abbrev pub invariant-loop-k : goal.invariant-loop-k
invariant-loop-k l = (l.k ≤ 16) × (l.any ≡ false → NoLf l.s l.i (l.i + l.k))

abbrev pub decreases-loop-k : goal.decreases-loop-k
decreases-loop-k l = 16 - l.k
