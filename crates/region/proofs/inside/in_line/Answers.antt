-- `region::inside::in_line` meets its contract: the base's column is inside its line, so what is left of the line is a difference.
use Rattle.std.proofs.Common.{◌-◌, arith, mod-lt}
use Rattle.region.proofs.inside.in_line.Goals as goal

pub overflow_sub-bases : goal.overflow_sub-bases
overflow_sub-bases c = let a = c.args in omega (arith, mod-lt (a.p.0 - 1) c.requires.0)
