-- `scoring::score_typed` meets its contract: 1 for the key, and then what `score_key` says.
use Rattle.std.proofs.Common.{sym, ◌∙◌}
use Rattle.scoring.specs.Places.{scored_as}
use Rattle.scoring.proofs.score_typed.Goals as goal

pub returns-then-over_limit : goal.returns-then-over_limit
unfolding scored_as
returns-then-over_limit c = rw (sym c.over_limit.ensures ∙ c.if-over_limit.true)

pub returns : goal.returns
unfolding scored_as
returns c = rw (sym c.over_limit.ensures ∙ c.if-over_limit.false) c.score_key.ensures
