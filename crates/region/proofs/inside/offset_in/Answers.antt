-- `region::inside::offset_in` meets its contract: a place that fits has an offset, and that is the place.
use Rattle.std.proofs.Common.{sym, ◌∙◌, arith}
use Rattle.record.specs.Laws.{address-none, address-known}
use Rattle.region.proofs.inside.offset_in.Goals as goal

pub returns-in_default : goal.returns-in_default
returns-in_default c = absurd (omega (arith, address-none c.args.x c.args.p c.requires.2 c.requires.0 c.requires.1 (sym c.offset_of.ensures ∙ c.in_default.is)))

pub returns : goal.returns
returns c = (address-known _ _ _ (sym c.offset_of.ensures ∙ c.in-Some.is)).here
