-- `parts::line_start` meets its contract: behind the LF that stands at n - 1 or behind it, a line begins at n or behind it.
use Rattle.std.proofs.Common.{◌∙◌}
use Rattle.parts.specs.Laws.{line_first, line-past, line-within}
use Rattle.parts.proofs.line_start.Goals as goal

pub returns-then-n-eq0 : goal.returns-then-n-eq0
returns-then-n-eq0 c = line_first _ _ c.if-n-eq0.true

pub returns-then-s-n : goal.returns-then-s-n
returns-then-s-n c = line-past _ _ c.if-s-n.true

pub returns : goal.returns
returns c = c.line_end.ensures ∙ line-within _ _ c.if-n-eq0.false c.if-s-n.false
