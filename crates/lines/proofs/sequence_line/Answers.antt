-- `lines::sequence_line` meets its contract: a line at the place runs to its end, and its bases are those of that part.
use Rattle.std.proofs.Common.{arith, sym, ◌∙◌, ◌<◌, ◌≤◌, length}
use Rattle.lines.specs.Laws.{no-line, some-here, line-here, line_end-le, line_end-gt}
use Rattle.lines.proofs.sequence_line.Goals as goal
use Rattle.lines.proofs.sequence_line.Goals.{After-line_end-e}

pub returns-then-sequence_ends : goal.returns-then-sequence_ends
returns-then-sequence_ends c = rw (no-line _ _ (sym c.sequence_ends.ensures ∙ c.if-sequence_ends.true))

-- there is a line: it ends in the file
within : (c : After-line_end-e)
    → (c.args.at < c.line_end-e.result) × (c.line_end-e.result ≤ length c.args.s.now)
within c =
    let a = c.args in
    let h = some-here a.s.now a.at (sym c.sequence_ends.ensures ∙ c.if-sequence_ends.false) in
    rw c.line_end-e.ensures (line_end-gt a.s.now a.at h, line_end-le a.s.now a.at (omega arith))

pub slice_bounds-base_count-end : goal.slice_bounds-base_count-end
slice_bounds-base_count-end c = omega (arith, within (goal.at.slice_bounds-base_count-end c).After-line_end-e)

pub returns : goal.returns
returns c =
    line-here _ _ _ _ (sym c.sequence_ends.ensures ∙ c.if-sequence_ends.false) c.line_end-e.ensures c.base_count-bases.ensures
