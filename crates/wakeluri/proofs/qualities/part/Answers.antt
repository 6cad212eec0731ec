-- `wakeluri::qualities::part` meets its contract: by its flag.
use Rattle.std.proofs.Common.{eq-eqb, ne_eqb}
use Rattle.wakeluri.specs.Qualities.{part_given}
use Rattle.wakeluri.proofs.qualities.part.Goals as goal

pub returns-then-qualities-eq0 : goal.returns-then-qualities-eq0
unfolding part_given
returns-then-qualities-eq0 c = rw (eq-eqb _ _ c.if-qualities-eq0.true)

pub returns : goal.returns
unfolding part_given
returns c = rw (ne_eqb _ _ c.if-qualities-eq0.false)
