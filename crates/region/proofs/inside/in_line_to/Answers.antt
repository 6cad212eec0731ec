-- `region::inside::in_line_to` meets its contract: a column is less than line bases, so the next number fits.
use Rattle.std.proofs.Common.{◌-◌, arith, mod-lt}
use Rattle.region.proofs.inside.in_line_to.Goals as goal

pub overflow_add-p : goal.overflow_add-p
overflow_add-p c = omega (arith, mod-lt (c.args.p.0 - 1) c.requires.0)
