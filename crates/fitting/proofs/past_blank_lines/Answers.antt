-- `fitting::past_blank_lines` meets its contract: the lines passed have no base, so the sequence may as well begin behind them.
use Rattle.std.proofs.Common.{◌+◌, ◌≤◌, arith, length}
use mathlib.Core.Logic.{inl, inr}
use Rattle.fitting.specs.BlankLines.{passed_start, passed-blank, found-bases, found_none, line-fits}
use Rattle.fitting.proofs.past_blank_lines.Goals as goal
use Rattle.fitting.proofs.past_blank_lines.Goals.{After-sequence_line-line}

pub loop-line-init : goal.loop-line-init
loop-line-init c = passed_start _ _ c.requires

pub returns-then-line-ne0 : goal.returns-then-line-ne0
returns-then-line-ne0 c =
    elim c.then-line-ne0.either [
      | inl z ↦ found-bases _ _ _ c.loop-line.invariant _ c.sequence_line-line.ensures z
      | inr w ↦ found_none _ _ _ c.loop-line.invariant _ c.sequence_line-line.ensures w.1
    ]

-- the line at i ends in the file
fits : (c : After-sequence_line-line) → c.loop-line.i + c.sequence_line-line.result.width ≤ length c.args.s.now
fits c = line-fits _ _ _ c.loop-line.invariant _ c.sequence_line-line.ensures

pub overflow_add-i : goal.overflow_add-i
overflow_add-i c = omega (arith, fits (goal.at.overflow_add-i c).After-sequence_line-line)

pub loop-line-smaller : goal.loop-line-smaller
loop-line-smaller c = omega (arith, fits (goal.at.loop-line-smaller c).After-sequence_line-line)

pub loop-line-preserved : goal.loop-line-preserved
loop-line-preserved c = passed-blank _ _ _ c.loop-line.invariant _ c.sequence_line-line.ensures c.if-line-ne0.false
