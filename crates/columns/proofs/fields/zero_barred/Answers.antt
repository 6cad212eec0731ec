-- `columns::fields::zero_barred` meets its contract: the tests are the definition's own.
use Rattle.std.proofs.Common.{eq-eqb, ne_eqb}
use Rattle.columns.proofs.fields.zero_barred.Goals as goal

pub returns-then-value-ne0 : goal.returns-then-value-ne0
returns-then-value-ne0 c = rw (ne_eqb _ _ c.if-value-ne0.true)

pub returns-then-place-eq4 : goal.returns-then-place-eq4
returns-then-place-eq4 c = rw (eq-eqb _ _ c.if-value-ne0.false, eq-eqb _ _ c.if-place-eq4.true)

pub returns : goal.returns
returns c = rw (eq-eqb _ _ c.if-value-ne0.false, ne_eqb _ _ c.if-place-eq4.false)
