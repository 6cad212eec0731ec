-- `exercise::name_field` meets its contract: a name is wanted, or not.
use Rattle.std.proofs.Common.{eq-eqb, ne_eqb}
use Rattle.exercise.specs.Reading.{name_field}
use Rattle.exercise.proofs.name_field.Goals as goal

pub returns-then-kept-ne1 : goal.returns-then-kept-ne1
unfolding name_field
returns-then-kept-ne1 c = rw (ne_eqb _ _ c.if-kept-ne1.true) c.malformed.ensures

pub returns : goal.returns
unfolding name_field
returns c = rw (eq-eqb _ _ c.if-kept-ne1.false)
