-- `region::answer::exact_answer` meets its contract: it judges as `read_exact` does, and stops there.
use Rattle.std.proofs.Common.{sym, ◌∙◌, ◌≡◌, Err, rules}
use Rattle.table.specs.RowLaws.{held-of}
use Rattle.region.specs.Laws.{bounded-known}
use Rattle.region.specs.Answer.{answer-long, answer-refused, answer-row}
use Rattle.region.proofs.answer.exact_answer.Goals as goal

pub returns-then-over_limit : goal.returns-then-over_limit
returns-then-over_limit c = answer-long _ _ _ _ _ (sym c.over_limit.ensures ∙ c.if-over_limit.true)

pub judged_answer-requires : goal.judged_answer-requires
judged_answer-requires c =
    let b = bounded-known _ _ _ _ (sym c.bounded_row.ensures ∙ c.in_ok-x.was) in
    let h = held-of _ _ b.1 in
    (h.some-bases, h.some-width, b.0)

pub returns-in_err-x : goal.returns-in_err-x
returns-in_err-x c =
    let e : c.from_residual.result ≡ Err c.in_err-x.field-0.0 = search rules in
    rw e (answer-refused _ _ _ _ _ (sym c.over_limit.ensures ∙ c.if-over_limit.false) _ (sym c.bounded_row.ensures ∙ c.in_err-x.was))

pub returns : goal.returns
returns c =
    c.judged_answer.ensures ∙ answer-row _ _ _ _ _ (sym c.over_limit.ensures ∙ c.if-over_limit.false) _ (sym c.bounded_row.ensures ∙ c.in_ok-x.was)
