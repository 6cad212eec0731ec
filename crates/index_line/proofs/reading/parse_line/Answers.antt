-- `index_line::reading::parse_line` meets its contract: the content is the front of the line, and one byte came off exactly if the end is plain.
use Rattle.std.proofs.Common.{◌≡◌, sym, length-take-le, Err, rules}
use Rattle.lines.specs.Laws.{content-le, content-front}
use Rattle.lines.specs.Lines.{content_of}
use Rattle.index_line.specs.Columns.{content_says}
use Rattle.index_line.specs.Ends.{plain-end}
use Rattle.index_line.proofs.reading.parse_line.Goals as goal
use Rattle.index_line.proofs.reading.parse_line.Goals.{After-parse_record}

pub overflow_sub-ended : goal.overflow_sub-ended
overflow_sub-ended g c = rw c.content_length-length.ensures (content-le _)

pub slice_bounds-parse_record-end : goal.slice_bounds-parse_record-end
slice_bounds-parse_record-end g c = rw c.content_length-length.ensures (sym (length-take-le _ _ (content-le _)))

-- what the content says
said : (g : _) (c : After-parse_record g)
    → (let a = c.args in c.parse_record.result ≡ content_says g.E.Line.entry g.row.N a.line (content_of a.l.now))
said g c =
    let a = c.args in
    rw (← content-front a.l.now, ← c.content_length-length.ensures) c.parse_record.ensures

pub returns-in_err-e : goal.returns-in_err-e
returns-in_err-e g c =
    let e : c.from_residual.result ≡ Err c.in_err-e.field-0.0 = search rules in
    rw (← said g (goal.at.returns-in_err-e g c).After-parse_record, c.in_err-e.was) e

pub returns : goal.returns
returns g c =
    rw (← said g (goal.at.returns g c).After-parse_record, c.in_ok-e.was, ← plain-end, ← c.content_length-length.ensures, c.plain_if.ensures)
