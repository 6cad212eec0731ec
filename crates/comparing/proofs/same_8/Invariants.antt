-- `comparing::same_8` meets its contract: at each place `all` says whether the bytes so far are the same.
use Rattle.std.proofs.Common.{◌≡◌, take}
use Rattle.lines.specs.Same.{same_bytes}
use Rattle.comparing.proofs.same_8.Given as goal

abbrev pub invariant-loop-k : goal.invariant-loop-k
invariant-loop-k l = l.all ≡ same_bytes (take l.k l.a) (take l.k l.b)
