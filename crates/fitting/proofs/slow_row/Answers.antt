-- `fitting::slow_row` meets its contract: the file from a record on is the row of that record, and the file behind it.
use Rattle.std.proofs.Common.{◌≡◌, ◌∙◌, ap, Ok, Err, rules}
use Rattle.table.specs.Laws.{next_row, next-stop}
use Rattle.indexer.specs.RuleLaws.{file-row, file-end, file-refused}
use Rattle.fitting.proofs.slow_row.Goals as goal

pub returns-in_err-x : goal.returns-in_err-x
returns-in_err-x c =
    let e : c.from_residual.result ≡ Err c.in_err-x.field-0.0 = search rules in
    rw e (next-stop _ _ _ _ _ (file-refused _ _ _ _ c.index_at-step.ensures _ c.in_err-x.was))

pub returns-in-Some : goal.returns-in-Some
returns-in-Some c = next_row _ _ _ _ _ _ (file-row _ _ _ _ c.index_at-step.ensures _ (c.in_ok-x.was ∙ ap Ok c.in-Some.is))

pub returns-in-None : goal.returns-in-None
returns-in-None c = next-stop _ _ _ _ _ (file-end _ _ _ _ c.index_at-step.ensures (c.in_ok-x.was ∙ ap Ok c.in-None.is))
