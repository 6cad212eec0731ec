-- `indexer::opened` meets its contract: past the end there is no record; before it the definition line decides how to go on.
use Rattle.std.proofs.Common.{◌≤◌, ◌<◌, ◌∙◌, sym, arith, length}
use Rattle.lines.specs.Lines.{part}
use Rattle.lines.specs.Laws.{line_end-le, line_end-gt, part_length}
use Rattle.definition.specs.Laws.{name-within, description-within, fails-near}
use Rattle.indexer.specs.RuleLaws.{record-end, record-here}
use Rattle.indexer.proofs.opened.Goals as goal
use Rattle.indexer.proofs.opened.Goals.{After-line_end-e}

pub returns-then-s-at : goal.returns-then-s-at
returns-then-s-at c = λ rule. record-end rule _ _ c.if-s-at.true

-- the definition line is not empty, and ends in the file
within : (c : After-line_end-e)
    → (c.args.at < c.line_end-e.result) × (c.line_end-e.result ≤ length c.args.s.now)
within c =
    let a = c.args in
    rw c.line_end-e.ensures (line_end-gt a.s.now a.at c.if-s-at.false, line_end-le a.s.now a.at (omega arith))

pub slice_bounds-parse_line-end : goal.slice_bounds-parse_line-end
slice_bounds-parse_line-end c = omega (arith, within (goal.at.slice_bounds-parse_line-end c).After-line_end-e)

-- the place is in the definition line, or just behind it
pub overflow_add-at : goal.overflow_add-at
overflow_add-at c = omega (arith, c.place.ensures, fails-near c.in-Err.f)

pub returns-in-Ok : goal.returns-in-Ok
returns-in-Ok c =
    let a = c.args in
    let w = within (goal.at.returns-in-Ok c).After-line_end-e in
    let said = sym c.parse_line.ensures ∙ c.in-Ok.is in
    let m = part_length a.s.now a.at c.line_end-e.result w.1 in
    record {
      begins = w.0;
      ends = w.1;
      name = omega (arith, w, m, name-within (part a.s.now a.at c.line_end-e.result) _ said);
      description = omega (arith, w, m, (description-within (part a.s.now a.at c.line_end-e.result) _ said).0);
      by_rule = λ rule. record-here rule _ _ _ _ _ c.if-s-at.false c.line_end-e.ensures c.parse_line.ensures c.in-Ok.is;
    }

pub returns-in-Err : goal.returns-in-Err
returns-in-Err c =
    rw (c.refusal.ensures, c.place.ensures) (λ rule. record-here rule _ _ _ _ _ c.if-s-at.false c.line_end-e.ensures c.parse_line.ensures c.in-Err.is)
