-- `index_line::reading::parse_by_end` meets its contract: past the end there is an empty line, and else the line goes up to its end.
use Rattle.std.proofs.Common.{arith}
use Rattle.lines.specs.Laws.{line_end-le}
use Rattle.index_line.specs.Standing.{none-says}
use Rattle.index_line.proofs.reading.parse_by_end.Goals as goal

pub returns-then-text-at : goal.returns-then-text-at
returns-then-text-at g c = none-says g.E.Line.entry g.E.Line.only g.met.E.Line.both _ _ _ _ c.if-text-at.true

pub slice_bounds-parse_line-end : goal.slice_bounds-parse_line-end
slice_bounds-parse_line-end g c =
    let a = c.args in
    omega (arith, c.line_end-end.ensures, line_end-le a.text.now a.at (omega arith))
