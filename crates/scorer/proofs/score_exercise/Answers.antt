-- `scorer::score_exercise` meets its contract: the size is judged first, then what is asked, and `score_row` gives the score for a row.
use Rattle.std.proofs.Common.{◌≡◌, sym, ◌∙◌, Err, rules}
use Rattle.table.specs.Rows.{held_at}
use Rattle.scorer.specs.Laws.{scorer-long, scorer-refused, scorer-row}
use Rattle.scorer.proofs.score_exercise.Goals as goal

pub returns-then-any_over : goal.returns-then-any_over
returns-then-any_over c = scorer-long _ _ _ _ _ _ _ (sym c.any_over.ensures ∙ c.if-any_over.true)

pub returns-in_err-x : goal.returns-in_err-x
returns-in_err-x c =
    let e : c.from_residual.result ≡ Err c.in_err-x.field-0.0 = search rules in
    rw e (scorer-refused _ _ _ _ _ _ _ (sym c.any_over.ensures ∙ c.if-any_over.false) _ (sym c.asked_row.ensures ∙ c.in_err-x.was))

pub returns : goal.returns
unfolding held_at
returns c =
    rw c.row-held.ensures at c.score_row.ensures
    ∙ scorer-row _ _ _ _ _ _ _ (sym c.any_over.ensures ∙ c.if-any_over.false) _ _ (sym c.asked_row.ensures ∙ c.in_ok-x.was)
