-- `columns::fields::text_length` meets its contract. The loop's invariant: n counts the name, the LF, and a tab and the digits of each
-- number passed; these are at most 21 bytes for a number.
use Rattle.std.proofs.Common.{◌≤◌, arith, take_all}
use Rattle.columns.specs.Digits.{decimal-short}
use Rattle.columns.specs.Fields.{tabbed}
use Rattle.columns.specs.Writing.{text-length, text-more-length}
use Rattle.columns.proofs.fields.text_length.Goals as goal
use Rattle.columns.proofs.fields.text_length.Goals.{After-digit_count}

pub loop-number-init : goal.loop-number-init
unfolding tabbed
loop-number-init c = (omega arith, omega arith)

-- the number has at most 20 digits
short : (c : After-digit_count) → c.digit_count.result ≤ 20
short c = rw c.digit_count.ensures (decimal-short _ (omega (arith, c.type_inv.numbers c.loop-number.number-index)))

pub overflow_add-n-in-loop-number : goal.overflow_add-n-in-loop-number
overflow_add-n-in-loop-number c = omega (arith, short (goal.at.overflow_add-n-in-loop-number c).After-digit_count)

pub overflow_add-n-in-loop-number-2 : goal.overflow_add-n-in-loop-number-2
overflow_add-n-in-loop-number-2 c = omega (arith, short (goal.at.overflow_add-n-in-loop-number-2 c).After-digit_count)

pub loop-number-preserved : goal.loop-number-preserved
loop-number-preserved c =
    let more = text-more-length c.args.numbers.now c.loop-number.number-index c.loop-number-test.true in
    (omega (arith, short (goal.at.loop-number-preserved c).After-digit_count), omega (arith, more, c.digit_count.ensures))

pub returns : goal.returns
returns c =
    let a = c.args in
    rw (text-length a.name.now a.numbers.now, ← take_all c.loop-number.number-index a.numbers.now (omega arith)) c.loop-number.invariant.1
