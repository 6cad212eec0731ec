-- `table::kind::fill` meets its contract: the size limit decides first.
use Rattle.std.proofs.Common.{sym, ◌∙◌}
use Rattle.table.specs.KindLaws.{filled_none}
use Rattle.table.proofs.kind.fill.Goals as goal

pub returns-then-over_limit-clause-filled : goal.returns-then-over_limit-clause-filled
returns-then-over_limit-clause-filled g c = rw (sym c.over_limit.ensures ∙ c.if-over_limit.true) (filled_none _ _)

pub returns-then-over_limit-clause-reached : goal.returns-then-over_limit-clause-reached
returns-then-over_limit-clause-reached g c = g.met.S.Source.start _ _ _

pub returns-clause-filled : goal.returns-clause-filled
returns-clause-filled g c = rw (sym c.over_limit.ensures ∙ c.if-over_limit.false) c.fill_rows.ensures.filled
