-- `lines::Cursor::read_line` meets its contract: the line at the place runs to its end, and its content is that of that part.
use Rattle.std.proofs.Common.{arith}
use Rattle.lines.specs.Laws.{read-end, read_here, line_end-le}
use Rattle.lines.proofs.Cursor.read_line.Goals as goal

pub returns-then-s-at : goal.returns-then-s-at
returns-then-s-at c = read-end _ _ c.if-s-at.true

pub slice_bounds-content_length-end : goal.slice_bounds-content_length-end
slice_bounds-content_length-end c =
    let a = c.args in
    omega (arith, c.line_end-e.ensures, line_end-le a.s.now a.self.at (omega arith))

pub returns : goal.returns
returns c =
    read_here _ _ _ _ c.if-s-at.false c.line_end-e.ensures c.content_length-content.ensures
