-- `columns::decimal::digit_count` meets its contract. The loop's invariant: the digits counted, all but one of w, and those of what is left
-- are all digits.
use Rattle.std.proofs.Common.{◌+◌, ◌≡◌, length}
use Rattle.columns.specs.Decimal.{decimal_of}
use Rattle.columns.proofs.decimal.digit_count.Given as goal

abbrev pub invariant-loop-m : goal.invariant-loop-m
invariant-loop-m l = l.w + length (decimal_of l.m) ≡ 1 + length (decimal_of l.n)

abbrev pub decreases-loop-m : goal.decreases-loop-m
decreases-loop-m l = l.m
