-- `fastq_index::read_row` meets its contract: past the end there is no line, and else the row is what the line says, placed in the text.
use Rattle.std.proofs.Common.{◌≡◌, ◌∙◌, Err, rules}
use Rattle.fastq_index.specs.TextLaws.{row-end, row_here}
use Rattle.fastq_index.proofs.read_row.Goals as goal

pub returns-then-text-a : goal.returns-then-text-a
returns-then-text-a c = row-end _ _ _ c.if-text-a.true

pub returns-in_err-x : goal.returns-in_err-x
returns-in_err-x c =
    let e : c.from_residual.result ≡ Err c.in_err-x.field-0.0 = search rules in
    e ∙ row_here _ _ _ c.if-text-a.false _ c.parse_at-found.ensures.end _ _ c.parse_at-found.ensures.read c.in_err-x.was

pub returns : goal.returns
returns c =
    rw c.named.ensures (row_here _ _ _ c.if-text-a.false _ c.parse_at-found.ensures.end _ _ c.parse_at-found.ensures.read c.in_ok-x.was)
