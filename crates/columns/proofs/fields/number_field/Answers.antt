-- `columns::fields::number_field` meets its contract: the field is the front of the rest, and `whole_field` reads it.
use Rattle.std.proofs.Common.{sym, length-take-le}
use Rattle.columns.specs.Reading.{field_len-le}
use Rattle.columns.proofs.fields.number_field.Goals as goal

pub slice_bounds-whole_field-end : goal.slice_bounds-whole_field-end
slice_bounds-whole_field-end c = rw c.field_length-length.ensures (sym (length-take-le _ _ (field_len-le _ _)))

pub returns : goal.returns
returns c = rw (← c.field_length-length.ensures) c.whole_field.ensures
