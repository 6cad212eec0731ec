-- `lines::ends::lf_in_stretch` meets its contract: before each row the bytes so far of the four quarters hold no LF.
use Rattle.std.proofs.Common.{◌*◌}
use Rattle.lines.specs.Abreast.{InFour, NoLf}
use Rattle.lines.proofs.ends.lf_in_stretch.Given as goal

abbrev pub invariant-loop-n : goal.invariant-loop-n
invariant-loop-n l = InFour (NoLf l.s (64 * l.n)) l.at (64 * l.rows)
