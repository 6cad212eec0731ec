-- `exercise::write_exercise` meets its contract: 1, 31, 33, 14, or the bytes.
use Rattle.std.proofs.Common.{sym, ◌∙◌, arith, lt-ltb, le-ltb}
use Rattle.exercise.specs.Writing.{written_as, text-no-room, text-poured}
use Rattle.exercise.specs.Laws.{known-most}
use Rattle.exercise.proofs.write_exercise.Goals as goal

pub returns-then-over_limit : goal.returns-then-over_limit
unfolding written_as
returns-then-over_limit c = rw (sym c.over_limit.ensures ∙ c.if-over_limit.true)

pub returns-then-name-gt65535 : goal.returns-then-name-gt65535
unfolding written_as
returns-then-name-gt65535 c = rw (sym c.over_limit.ensures ∙ c.if-over_limit.false, lt-ltb 65535 _ c.if-name-gt65535.true)

pub returns-then-out-needed : goal.returns-then-out-needed
unfolding written_as
returns-then-out-needed c = rw (sym c.over_limit.ensures ∙ c.if-over_limit.false, le-ltb 65535 _ c.if-name-gt65535.false, sym c.known.ensures ∙ c.if-known.true) (text-no-room _ _ _ _ _ c.if-out-needed.true)

pub overflow_cast-edition : goal.overflow_cast-edition
overflow_cast-edition c = omega (arith, known-most 2 _ (sym c.known.ensures ∙ c.if-known.true))

pub returns-then-known : goal.returns-then-known
unfolding written_as
returns-then-known c = rw (sym c.over_limit.ensures ∙ c.if-over_limit.false, le-ltb 65535 _ c.if-name-gt65535.false, sym c.known.ensures ∙ c.if-known.true) (text-poured _ _ _ _ _ c.if-out-needed.false _ c.put_text.ensures)

pub returns : goal.returns
unfolding written_as
returns c = rw (sym c.over_limit.ensures ∙ c.if-over_limit.false, le-ltb 65535 _ c.if-name-gt65535.false, sym c.known.ensures ∙ c.if-known.false)
