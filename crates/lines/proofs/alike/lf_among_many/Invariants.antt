-- `lines::alike::lf_among_many` meets its contract: no LF is among the bytes passed, and the last block begins in them.
use Rattle.std.proofs.Common.{◌*◌, ◌≡◌, false, take, drop}
use Rattle.lines.specs.Clear.{has_lf}
use Rattle.lines.proofs.alike.lf_among_many.Given as goal

abbrev pub invariant-loop-k : goal.invariant-loop-k
invariant-loop-k l = has_lf (take (128 * l.k) (drop l.at l.s)) ≡ false
