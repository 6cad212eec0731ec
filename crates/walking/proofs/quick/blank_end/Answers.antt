-- `walking::quick::blank_end` meets its contract: the lines passed have no base, so that what is behind them is all.
use Rattle.std.proofs.Common.{◌+◌, ◌≤◌, ◌<◌, sym, ◌∙◌, arith, length}
use Rattle.lines.specs.Laws.{first-within, first-grows}
use Rattle.walking.specs.Even.{blank-start, blank-more, blank-end}
use Rattle.walking.proofs.quick.blank_end.Goals as goal
use Rattle.walking.proofs.quick.blank_end.Goals.{After-sequence_line-line}

pub loop-line-init : goal.loop-line-init
loop-line-init c = blank-start _ _ c.requires

-- the line at i ends behind i and in the file
within : (c : After-sequence_line-line)
    → (c.loop-line.i < c.loop-line.i + c.sequence_line-line.result.width)
    × (c.loop-line.i + c.sequence_line-line.result.width ≤ length c.args.s.now)
within c =
    rw c.sequence_line-line.ensures
    (first-grows _ _ c.loop-line.invariant.within (sym c.sequence_ends.ensures ∙ c.loop-line-test.true), first-within _ _ c.loop-line.invariant.within)

pub overflow_add-i : goal.overflow_add-i
overflow_add-i c = omega (arith, within (goal.at.overflow_add-i c).After-sequence_line-line)

pub loop-line-smaller : goal.loop-line-smaller
loop-line-smaller c = omega (arith, within (goal.at.loop-line-smaller c).After-sequence_line-line)

pub loop-line-preserved : goal.loop-line-preserved
loop-line-preserved c =
    blank-more _ _ _ c.loop-line.invariant _ c.sequence_line-line.ensures c.if-line-ne0.false

pub returns : goal.returns
returns c = blank-end _ _ _ c.loop-line.invariant (sym c.sequence_ends.ensures ∙ c.loop-line-test.false)
