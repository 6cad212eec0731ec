-- `fastq_index::next_row` meets its contract: before the part's end it is what the record at its place gives, and from there on the part is over.
use Rattle.std.proofs.Common.{◌≡◌, ◌∙◌, ap, Ok, Err, rules, arith}
use Rattle.fastq_index.specs.PartLaws.{next_past, next-at}
use Rattle.fastq_index.proofs.next_row.Goals as goal

pub returns-then-to-at : goal.returns-then-to-at
returns-then-to-at c = next_past _ _ _ (omega arith)

pub returns-in_err-x : goal.returns-in_err-x
returns-in_err-x c =
    let e : c.from_residual.result ≡ Err c.in_err-x.field-0.0 = search rules in
    e ∙ next-at _ _ _ (omega arith) _ c.index_at-step.ensures _ c.in_err-x.was

pub returns-in-Some : goal.returns-in-Some
returns-in-Some c = next-at _ _ _ (omega arith) _ c.index_at-step.ensures _ (c.in_ok-x.was ∙ ap Ok c.in-Some.is)

pub returns-in-None : goal.returns-in-None
returns-in-None c = next-at _ _ _ (omega arith) _ c.index_at-step.ensures _ (c.in_ok-x.was ∙ ap Ok c.in-None.is)
