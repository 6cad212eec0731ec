-- `fastq::index_at` meets its contract: at the end, or by what the definition line says.
use Rattle.std.proofs.Common.{sym, ◌∙◌, arith}
use Rattle.definition.specs.Laws.{fails-near}
use Rattle.fastq.specs.RecordLaws.{record-end, record-named, record-bad, record-ends, record-name}
use Rattle.fastq.proofs.index_at.Goals as goal

pub returns-then-s-at : goal.returns-then-s-at
returns-then-s-at c = record-end _ _ c.if-s-at.true

pub slice_bounds-parse_marked-end : goal.slice_bounds-parse_marked-end
slice_bounds-parse_marked-end c = omega (arith, record-ends _ _ c.if-s-at.false _ c.line_end-e.ensures)

pub index_sequence-requires : goal.index_sequence-requires
index_sequence-requires c =
    let w = record-ends _ _ c.if-s-at.false _ c.line_end-e.ensures in
    (w.0, w.1, record-name _ _ c.if-s-at.false _ c.line_end-e.ensures _ (sym c.parse_marked.ensures ∙ c.in-Ok.is))

pub overflow_add-at : goal.overflow_add-at
overflow_add-at c = omega (arith, c.place.ensures, fails-near c.in-Err.f)

pub returns-in-Ok : goal.returns-in-Ok
returns-in-Ok c =
    c.of.ensures ∙ c.index_sequence.ensures
    ∙ record-named _ _ c.if-s-at.false _ c.line_end-e.ensures _ (sym c.parse_marked.ensures ∙ c.in-Ok.is)

pub returns-in-Err : goal.returns-in-Err
returns-in-Err c =
    c.of-in-Err.ensures ∙ rw (c.refusal.ensures, c.place.ensures)
    (record-bad _ _ c.if-s-at.false _ c.line_end-e.ensures _ (sym c.parse_marked.ensures ∙ c.in-Err.is))
