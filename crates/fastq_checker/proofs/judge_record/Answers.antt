-- `fastq_checker::judge_record` meets its contract: a line that reads has its name inside.
use Rattle.std.proofs.Common.{sym, ◌∙◌, ◌≡◌, Err, rules}
use borrow.Author.Tests.{eqb-true, eqb-false}
use Rattle.fastq_checker.specs.Named.{line-named}
use Rattle.fastq_checker.specs.JudgeLaws.{record-absent, record-line, record-entry}
use Rattle.fastq_checker.proofs.judge_record.Goals as goal

pub returns-then-is_empty : goal.returns-then-is_empty
returns-then-is_empty c = record-absent _ _ _ _ (eqb-true _ _ (sym c.is_empty.ensures ∙ c.if-is_empty.true))

pub judge_entry-requires : goal.judge_entry-requires
judge_entry-requires c =
    let p = c.requires in
    (p.0, (line-named _ _ _ (sym p.1 ∙ c.in_ok-e.was)).inside)

pub returns-in_err-e : goal.returns-in_err-e
returns-in_err-e c =
    let e : c.from_residual.result ≡ Err c.in_err-e.field-0.0 = search rules in
    let p = c.requires in
    rw e (record-line _ _ _ _ (eqb-false _ _ (sym c.is_empty.ensures ∙ c.if-is_empty.false)) _ (sym p.1 ∙ c.in_err-e.was))

pub returns : goal.returns
returns c =
    let p = c.requires in
    c.judge_entry.ensures ∙ record-entry _ _ _ _ (eqb-false _ _ (sym c.is_empty.ensures ∙ c.if-is_empty.false)) _ (sym p.1 ∙ c.in_ok-e.was)
