-- `exercise::start_field` meets its contract: the tests are the definition's own.
use Rattle.std.proofs.Common.{eq-eqb, ne_eqb}
use Rattle.exercise.specs.Reading.{start_field}
use Rattle.exercise.proofs.start_field.Goals as goal

pub returns-then-kept-ne2 : goal.returns-then-kept-ne2
unfolding start_field
returns-then-kept-ne2 c = rw (ne_eqb _ _ c.if-kept-ne2.true) c.malformed.ensures

pub returns-in_default : goal.returns-in_default
unfolding start_field
returns-in_default c = rw (eq-eqb _ _ c.if-kept-ne2.false, ne_eqb _ _ c.in_default.ensures) c.malformed-in_default.ensures

pub returns : goal.returns
unfolding start_field
returns c =
    let e = c.in-Some.ensures in
    rw (eq-eqb _ _ c.if-kept-ne2.false, e.1, e.0)
