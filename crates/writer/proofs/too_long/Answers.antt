-- `writer::too_long` meets its contract.
use Rattle.std.proofs.Common.{sym, ◌∙◌}
use Rattle.writer.specs.Text.{too_long}
use Rattle.writer.proofs.too_long.Goals as goal

pub returns-then-over_limit : goal.returns-then-over_limit
unfolding too_long
returns-then-over_limit c = rw (sym c.over_limit.ensures ∙ c.if-over_limit.true)

pub returns-then-over_limit-2 : goal.returns-then-over_limit-2
unfolding too_long
returns-then-over_limit-2 c = rw (sym c.over_limit.ensures ∙ c.if-over_limit.false, sym c.over_limit-2.ensures ∙ c.if-over_limit-2.true)

pub returns : goal.returns
unfolding too_long
returns c = rw (sym c.over_limit.ensures ∙ c.if-over_limit.false, sym c.over_limit-2.ensures ∙ c.if-over_limit-2.false) c.over_limit-3.ensures
