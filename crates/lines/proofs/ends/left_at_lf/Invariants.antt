-- `lines::ends::left_at_lf` meets its contract: at each place `left` is right for the bytes so far.
use Rattle.std.proofs.Common.{◌≡◌, take, drop}
use Rattle.lines.specs.FirstLf.{left_at_lf}
use Rattle.lines.proofs.ends.left_at_lf.Given as goal

abbrev pub invariant-loop-k : goal.invariant-loop-k
invariant-loop-k l = l.left ≡ left_at_lf 64 (take l.k (drop l.i l.s))
