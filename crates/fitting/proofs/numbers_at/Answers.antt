-- `fitting::numbers_at` meets its contract: no line has a base, or one alone, or the next tells the width.
use Rattle.std.proofs.Common.{arith}
use Rattle.fitting.specs.BlankLines.{numbers-none, behind-fits, numbers-run, numbers-gap}
use Rattle.fitting.proofs.numbers_at.Goals as goal

pub returns-then-line-eq0 : goal.returns-then-line-eq0
returns-then-line-eq0 c = numbers-none _ _ c.requires _ c.past_blank_lines-first.ensures c.if-line-eq0.true

pub overflow_add-first : goal.overflow_add-first
overflow_add-first c =
    omega (arith, behind-fits _ _ c.requires _ c.past_blank_lines-first.ensures)

pub past_blank_lines-next-requires : goal.past_blank_lines-next-requires
past_blank_lines-next-requires c =
    behind-fits _ _ c.requires _ c.past_blank_lines-first.ensures

pub returns-then-next-eq0 : goal.returns-then-next-eq0
returns-then-next-eq0 c =
    numbers-run _ _ c.requires _ c.past_blank_lines-first.ensures c.if-line-eq0.false _ c.past_blank_lines-next.ensures c.if-next-eq0.true

pub returns-else-next-eq0 : goal.returns-else-next-eq0
returns-else-next-eq0 c =
    numbers-gap _ _ c.requires _ c.past_blank_lines-first.ensures c.if-line-eq0.false _ c.past_blank_lines-next.ensures c.if-next-eq0.false
