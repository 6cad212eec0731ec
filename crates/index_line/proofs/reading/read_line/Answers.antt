-- `index_line::reading::read_line` meets its contract: refusal 1 by the limit's test, and else what the line says, which is plain only if the
-- end of the first line is the end.
use Rattle.std.proofs.Common.{◌≡◌, sym, ◌∙◌, zero-add, length, eqb}
use Rattle.index_line.specs.Columns.{one_line}
use Rattle.index_line.proofs.reading.read_line.Goals as goal
use Rattle.index_line.proofs.reading.read_line.Goals.{After-line_end}

-- is it one line
one : (g : _) (c : After-line_end g) → (let l = c.args.l.now in eqb c.line_end.result (length l) ≡ one_line l)
unfolding one_line
one g c = rw (c.line_end.ensures, zero-add)

pub returns : goal.returns
returns g c =
    rw (sym c.over_limit.ensures ∙ c.if-over_limit.false, ← c.parse_line.ensures, c.in_ok-e.was, ← one g (goal.at.returns g c).After-line_end, c.plain_if.ensures)
