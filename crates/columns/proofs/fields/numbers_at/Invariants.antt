-- `columns::fields::numbers_at` meets its contract. The loop's invariant: the numbers read stand, as they are written, from the place up to `tab`.
use Rattle.std.proofs.Common.{take}
use Rattle.columns.specs.Standing.{NumbersAt}
use Rattle.columns.proofs.fields.numbers_at.Given as goal

abbrev pub invariant-loop-number : goal.invariant-loop-number
invariant-loop-number l = NumbersAt l.s l.place (take l.number-index l.numbers) l.tab
