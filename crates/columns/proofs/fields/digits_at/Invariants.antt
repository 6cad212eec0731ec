-- `columns::fields::digits_at`: before each turn the bytes passed are digits, the value is theirs, and the first is no 0.
use Rattle.std.proofs.Common.{◌-◌, ◌<◌, drop}
use Rattle.columns.specs.Quick.{FrontDigits}
use Rattle.columns.proofs.fields.digits_at.Given as goal

abbrev pub invariant-loop-i : goal.invariant-loop-i
invariant-loop-i l = (l.at < l.i) × FrontDigits (drop l.at l.content) l.value (l.i - l.at)
