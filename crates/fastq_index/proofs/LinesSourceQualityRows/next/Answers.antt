-- `fastq_index::LinesSourceQualityRows::next` meets its contract: the text from a line on is the row of that line, and the text behind it.
use Rattle.std.proofs.Common.{◌≡◌, ◌∙◌, ap, Ok, Err, rules}
use Rattle.table.specs.KindLaws.{next_row, next-stop}
use Rattle.fastq_index.specs.TextLaws.{index-row, index-ended, index-refused}
use Rattle.fastq_index.proofs.LinesSourceQualityRows.next.Goals as goal

pub returns-in_err-x-clause-next : goal.returns-in_err-x-clause-next
returns-in_err-x-clause-next c =
    let e : c.from_residual.result ≡ Err c.in_err-x.field-0.0 = search rules in
    rw e (next-stop _ _ _ _ _ (index-refused _ _ _ _ c.read_row.ensures _ c.in_err-x.was))

pub returns-in-Some-clause-next : goal.returns-in-Some-clause-next
returns-in-Some-clause-next c = next_row _ _ _ _ _ _ (index-row _ _ _ _ c.read_row.ensures _ _ (c.in_ok-x.was ∙ ap Ok c.in-Some.is))

pub returns-in-None-clause-next : goal.returns-in-None-clause-next
returns-in-None-clause-next c = next-stop _ _ _ _ _ (index-ended _ _ _ _ c.read_row.ensures (c.in_ok-x.was ∙ ap Ok c.in-None.is))
