-- `feeder::taking::take_whole` meets its contract: it takes records if the feeder awaits a definition and no line waits; else nothing changes.
use Rattle.std.proofs.Common.{arith, sym, ◌∙◌}
use Rattle.feeder.specs.Turns.{whole-none, whole-place, whole-records}
use Rattle.feeder.proofs.taking.take_whole.Goals as goal

pub returns-then-not-is_clear : goal.returns-then-not-is_clear
returns-then-not-is_clear c = whole-none _ _ _ c.requires.0 _ c.requires.2

pub take_records-r-requires : goal.take_records-r-requires
take_records-r-requires c = (c.requires.0, c.requires.1, omega (arith, c.requires.1, whole-place c.args.f c.args.p.now c.args.i c.requires.0 c.args.table.now c.requires.2 _ c.in-Definition.is))

pub returns : goal.returns
returns c = whole-records _ _ _ c.requires.0 _ c.requires.2 _ c.in-Definition.is _ _ (sym c.is_clear.ensures ∙ c.if-not-is_clear.false) c.take_records-r.ensures

pub returns-in_default : goal.returns-in_default
returns-in_default c = whole-none _ _ _ c.requires.0 _ c.requires.2
