-- `table::named_in` meets its contract: the name is judged, then the description.
use Rattle.std.proofs.Common.{sym, ◌∙◌, ap, Err}
use Rattle.table.specs.RowLaws.{name-outside, description-outside, spans-inside}
use Rattle.table.proofs.named_in.Goals as goal

pub returns-then-outside : goal.returns-then-outside
returns-then-outside c = ap Err c.bad.ensures ∙ name-outside _ _ _ (sym c.outside.ensures ∙ c.if-outside.true)

pub returns-then-outside-2 : goal.returns-then-outside-2
returns-then-outside-2 c =
    ap Err c.bad-then-outside-2.ensures ∙ description-outside _ _ _ (sym c.outside.ensures ∙ c.if-outside.false) (sym c.outside-2.ensures ∙ c.if-outside-2.true)

pub returns : goal.returns
returns c =
    spans-inside _ _ _ (sym c.outside.ensures ∙ c.if-outside.false) (sym c.outside-2.ensures ∙ c.if-outside-2.false)
