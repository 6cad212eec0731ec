-- `exercise::read_exercise` meets its contract: the size limit decides first.
use Rattle.std.proofs.Common.{sym, ◌∙◌, ltb-false}
use Rattle.refusal.specs.Numbers.{over_limit}
use Rattle.exercise.specs.Reading.{read_as}
use Rattle.exercise.proofs.read_exercise.Goals as goal

pub returns-then-over_limit : goal.returns-then-over_limit
unfolding read_as
returns-then-over_limit c = rw (sym c.over_limit.ensures ∙ c.if-over_limit.true)

pub read_fields-requires : goal.read_fields-requires
unfolding over_limit
read_fields-requires c = ltb-false 1099511627776 _ (sym c.over_limit.ensures ∙ c.if-over_limit.false)

pub returns : goal.returns
unfolding read_as
returns c = rw (sym c.over_limit.ensures ∙ c.if-over_limit.false) c.read_fields.ensures
