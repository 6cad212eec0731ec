-- `lines::ends::lf_in_64` meets its contract: at each place `any` says whether the bytes so far hold an LF.
use Rattle.std.proofs.Common.{◌≡◌, take, drop}
use Rattle.lines.specs.Clear.{has_lf}
use Rattle.lines.proofs.ends.lf_in_64.Given as goal

abbrev pub invariant-loop-k : goal.invariant-loop-k
invariant-loop-k l = l.any ≡ has_lf (take l.k (drop l.i l.s))
