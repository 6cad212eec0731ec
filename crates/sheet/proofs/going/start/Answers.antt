-- `sheet::going::start` meets its contract: it asks for the file's size, the number of regions and that of starts, in this order.
use Rattle.std.proofs.Common.{sym, ◌∙◌, arith}
use Rattle.sheet.specs.Turns.{starts-long, starts-many, starts-few, starts-go}
use Rattle.sheet.proofs.going.start.Goals as goal

pub returns-then-over_limit : goal.returns-then-over_limit
returns-then-over_limit c = c.stop.ensures ∙ starts-long _ _ _ (sym c.over_limit.ensures ∙ c.if-over_limit.true)

pub returns-then-count-gt-MOST : goal.returns-then-count-gt-MOST
returns-then-count-gt-MOST c = c.stop-then-count-gt-MOST.ensures ∙ starts-many _ _ _ (sym c.over_limit.ensures ∙ c.if-over_limit.false) (omega arith)

pub returns-then-starts-count : goal.returns-then-starts-count
returns-then-starts-count c = c.stop-then-starts-count.ensures ∙ starts-few _ _ _ (sym c.over_limit.ensures ∙ c.if-over_limit.false) (omega arith) (omega arith)

pub returns : goal.returns
returns c = starts-go _ _ _ (sym c.over_limit.ensures ∙ c.if-over_limit.false) (omega arith) (omega arith)
