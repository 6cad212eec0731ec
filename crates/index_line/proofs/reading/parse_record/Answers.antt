-- `index_line::reading::parse_record` meets its contract: the first field is the name, and `read_numbers` tells what the others say.
use Rattle.std.proofs.Common.{◌≡◌, sym, ap, ◌∙◌, Err, rules, arith}
use Rattle.std.proofs.lemmas.List.{length-replicate}
use Rattle.columns.specs.Reading.{told}
use Rattle.index_line.specs.Columns.{entry_read, content_says}
use Rattle.index_line.specs.AnyColumns.{content-says}
use Rattle.index_line.proofs.reading.parse_record.Goals as goal
use Rattle.index_line.proofs.reading.parse_record.Goals.{After-read_numbers}

pub whole_as_slice-read_numbers : goal.whole_as_slice-read_numbers
whole_as_slice-read_numbers g c = omega (arith, g.met.E.Line.few)

-- what the name and the other fields say
said : (g : _) (c : After-read_numbers g)
    → (let a = c.args in
    content_says g.E.Line.entry g.row.N a.line a.content.now ≡ entry_read g.E.Line.entry c.field_length-name.result (told c.read_numbers.result c.read_numbers.new.numbers))
said g c =
    let h = ap (entry_read g.E.Line.entry c.field_length-name.result) (sym c.read_numbers.ensures) in
    content-says g.E.Line.entry g.row.N _ _ c.if-content-eq0.false ∙ rw (← c.field_length-name.ensures) (rw length-replicate at h)

pub returns-in_err-plain : goal.returns-in_err-plain
returns-in_err-plain g c =
    let e : c.from_residual.result ≡ Err c.in_err-plain.field-0.0 = search rules in
    e ∙ rw (said g (goal.at.returns-in_err-plain g c).After-read_numbers, c.in_err-plain.was)

pub of-requires : goal.of-requires
of-requires g c = omega (arith, g.met.E.Line.few)

pub returns : goal.returns
returns g c = rw (said g (goal.at.returns g c).After-read_numbers, c.in_ok-plain.was, c.of.ensures)
