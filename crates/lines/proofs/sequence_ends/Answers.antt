-- `lines::sequence_ends` meets its contract: the byte at the place decides, and past the end there is no line.
use Rattle.lines.specs.Laws.{ends-here, ends-past}
use Rattle.lines.proofs.sequence_ends.Goals as goal

pub returns-then-at-s : goal.returns-then-at-s
returns-then-at-s c = ends-here _ _ c.if-at-s.true

pub returns-else-at-s : goal.returns-else-at-s
returns-else-at-s c = ends-past _ _ c.if-at-s.false
