-- `walking::quick::blank_end` meets its contract: the lines passed have no base, so that what is behind them is all.
use Rattle.std.proofs.Common.{◌-◌, length}
use Rattle.walking.specs.Even.{BlankSo}
use Rattle.walking.proofs.quick.blank_end.Given as goal

abbrev pub invariant-loop-line : goal.invariant-loop-line
invariant-loop-line l = BlankSo l.s l.at l.i

abbrev pub decreases-loop-line : goal.decreases-loop-line
decreases-loop-line l = length l.s - l.i
