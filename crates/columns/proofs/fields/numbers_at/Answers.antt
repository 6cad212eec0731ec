-- `columns::fields::numbers_at` meets its contract. The loop's invariant: the numbers read stand, as they are written, from the place up to `tab`.
use Rattle.std.proofs.Common.{arith, add-one, take-suc-set}
use Rattle.columns.specs.Standing.{numbers-none, numbers_more}
use Rattle.columns.proofs.fields.numbers_at.Goals as goal

pub loop-number-init : goal.loop-number-init
loop-number-init c = let a = c.args in numbers-none a.s.now a.place a.numbers.now

pub loop-number-preserved : goal.loop-number-preserved
loop-number-preserved c =
    let a = c.args in
    let d = c.in_ok-digits.ensures in
    rw (add-one c.loop-number.number-index, take-suc-set c.loop-number.numbers c.loop-number.number-index _ (omega arith))
    (numbers_more a.s.now a.place _ c.loop-number.tab _ _ c.loop-number.invariant (omega (arith, c.in_ok-last.ensures)) c.if-s-tab-ne-TAB.false d.0 d.1)
