-- `wakeluri::text::wakeluri_read_line` meets its contract: the size limit decides first, and else it gives the call's answer as numbers.
use Rattle.std.proofs.Common.{sym, ap, ◌∙◌}
use Rattle.wakeluri.specs.Answer.{line_answer}
use Rattle.wakeluri.specs.Told.{line_told}
use Rattle.wakeluri.proofs.text.wakeluri_read_line.Goals as goal

pub returns-then-over_limit : goal.returns-then-over_limit
unfolding line_told
returns-then-over_limit c =
    rw (sym c.over_limit.ensures ∙ c.if-over_limit.true) (rw (c.from.ensures, c.no_span.ensures) at c.span_answer.ensures)

pub returns : goal.returns
unfolding line_told
returns c =
    rw (sym c.over_limit.ensures ∙ c.if-over_limit.false) (c.from-2.ensures ∙ ap line_answer c.read_line.ensures)
