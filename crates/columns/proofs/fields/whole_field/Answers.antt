-- `columns::fields::whole_field` meets its contract: what is read of the bytes, and whether it is a barred 0, decide by a law each.
use Rattle.std.proofs.Common.{◌≡◌, sym, ◌∙◌, Some}
use Rattle.columns.specs.Decimal.{number_of}
use Rattle.columns.specs.Reading.{field-bad, field-zero, field-good}
use Rattle.columns.proofs.fields.whole_field.Goals as goal
use Rattle.columns.proofs.fields.whole_field.Goals.{In-Some}

-- the value that was read
value : (c : In-Some) → number_of c.args.f.now ≡ Some c.in-Some.value
value c = sym c.read_number.ensures ∙ c.in-Some.is

pub returns-then-zero_barred : goal.returns-then-zero_barred
returns-then-zero_barred c = field-zero _ _ _ _ (value (goal.at.returns-then-zero_barred c).In-Some) (sym c.zero_barred.ensures ∙ c.if-zero_barred.true)

pub returns-in-None : goal.returns-in-None
returns-in-None c = field-bad _ _ _ (sym c.read_number.ensures ∙ c.in-None.is)

pub returns-else-zero_barred : goal.returns-else-zero_barred
returns-else-zero_barred c =
    rw c.plain_number-plain.ensures
    (field-good _ _ _ _ (value (goal.at.returns-else-zero_barred c).In-Some) (sym c.zero_barred.ensures ∙ c.if-zero_barred.false))
