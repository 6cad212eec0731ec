-- `index_line::read_content` meets its contract: refusal 1 by the limit's test, and else what the content says, which is not plain.
use Rattle.std.proofs.Common.{◌≡◌, sym, ◌∙◌, Err, rules}
use Rattle.index_line.specs.IndexLine.{fields_of, content_says, read_content}
use Rattle.index_line.proofs.read_content.Goals as goal

pub returns-then-over_limit : goal.returns-then-over_limit
unfolding read_content
returns-then-over_limit c = rw (sym c.over_limit.ensures ∙ c.if-over_limit.true)

pub returns-in_err-e : goal.returns-in_err-e
unfolding fields_of content_says read_content
returns-in_err-e c =
    let e : c.from_residual.result ≡ Err c.in_err-e.field-0.0 = search rules in
    rw (sym c.over_limit.ensures ∙ c.if-over_limit.false, ← c.parse_record.ensures, c.in_err-e.was) e

pub returns : goal.returns
unfolding fields_of content_says read_content
returns c = rw (sym c.over_limit.ensures ∙ c.if-over_limit.false, ← c.parse_record.ensures, c.in_ok-e.was, c.plain_if.ensures)
