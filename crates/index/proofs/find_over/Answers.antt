-- `index::find_over` meets its contract: the size limit decides first, of the names and then of the name.
use Rattle.std.proofs.Common.{sym, ◌∙◌}
use Rattle.index.specs.Find.{row_read}
use Rattle.index.proofs.find_over.Goals as goal

pub returns-then-over_limit : goal.returns-then-over_limit
unfolding row_read
returns-then-over_limit g c = rw (sym c.over_limit.ensures ∙ c.if-over_limit.true)

pub returns-then-over_limit-2 : goal.returns-then-over_limit-2
unfolding row_read
returns-then-over_limit-2 g c = rw (sym c.over_limit.ensures ∙ c.if-over_limit.false, sym c.over_limit-2.ensures ∙ c.if-over_limit-2.true)

pub returns : goal.returns
unfolding row_read
returns g c = rw (sym c.over_limit.ensures ∙ c.if-over_limit.false, sym c.over_limit-2.ensures ∙ c.if-over_limit-2.false) c.find_row.ensures
