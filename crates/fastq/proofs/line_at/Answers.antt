-- `fastq::line_at` meets its contract: a line runs to its end, and its bases are those of that part.
use Rattle.std.proofs.Common.{◌<◌, ◌≤◌, arith, length}
use Rattle.lines.specs.Laws.{line_end-gt, line_end-le}
use Rattle.fastq.specs.Laws.{line-none, line-here}
use Rattle.fastq.proofs.line_at.Goals as goal
use Rattle.fastq.proofs.line_at.Goals.{After-line_end_far-e}

pub returns-then-s-at : goal.returns-then-s-at
returns-then-s-at c = line-none _ _ c.if-s-at.true

-- the line ends in the file
within : (c : After-line_end_far-e)
    → (c.args.at < c.line_end_far-e.result) × (c.line_end_far-e.result ≤ length c.args.s.now)
within c =
    let a = c.args in
    rw c.line_end_far-e.ensures (line_end-gt a.s.now a.at c.if-s-at.false, line_end-le a.s.now a.at (omega arith))

pub slice_bounds-base_count-end : goal.slice_bounds-base_count-end
slice_bounds-base_count-end c = omega (arith, within (goal.at.slice_bounds-base_count-end c).After-line_end_far-e)

pub returns : goal.returns
returns c = line-here _ _ _ _ c.if-s-at.false c.line_end_far-e.ensures c.base_count-bases.ensures
