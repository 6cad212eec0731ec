-- `fitting::past_blank_lines` meets its contract: the lines passed have no base, so the sequence may as well begin behind them.
use Rattle.std.proofs.Common.{◌-◌, length}
use Rattle.fitting.specs.BlankLines.{Passed}
use Rattle.fitting.proofs.past_blank_lines.Given as goal

abbrev pub invariant-loop-line : goal.invariant-loop-line
invariant-loop-line l = Passed l.s l.at l.i

abbrev pub decreases-loop-line : goal.decreases-loop-line
decreases-loop-line l = length l.s - l.i
