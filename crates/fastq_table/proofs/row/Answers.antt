-- `fastq_table::row` meets its contract: of the row in use, the part that is asked.
use Rattle.std.proofs.Common.{◌≡◌, ◌∙◌, Err, rules}
use Rattle.fastq_table.specs.RowLaws.{used_none, used_some}
use Rattle.fastq_table.proofs.row.Goals as goal

pub returns-in_err-number : goal.returns-in_err-number
returns-in_err-number c =
    let e : c.from_residual.result ≡ Err c.in_err-number.field-0.0 = search rules in
    e ∙ used_none _ _ _ _ _ c.row.ensures _ c.in_err-number.was

pub returns : goal.returns
returns c = rw c.part.ensures (used_some _ _ _ _ _ c.row.ensures _ _ c.in_ok-number.was)
