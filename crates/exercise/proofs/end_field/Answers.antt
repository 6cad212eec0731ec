-- `exercise::end_field` meets its contract: the tests are the definition's own.
use Rattle.std.proofs.Common.{eq-eqb, ne_eqb}
use Rattle.exercise.specs.Reading.{end_field}
use Rattle.exercise.proofs.end_field.Goals as goal

pub returns-then-kept-ne3 : goal.returns-then-kept-ne3
unfolding end_field
returns-then-kept-ne3 c = rw (ne_eqb _ _ c.if-kept-ne3.true) c.malformed.ensures

pub returns-in_default : goal.returns-in_default
unfolding end_field
returns-in_default c = rw (eq-eqb _ _ c.if-kept-ne3.false, ne_eqb _ _ c.in_default.ensures) c.malformed-in_default.ensures

pub returns : goal.returns
unfolding end_field
returns c =
    let e = c.in-Some.ensures in
    rw (eq-eqb _ _ c.if-kept-ne3.false, e.1, e.0)
