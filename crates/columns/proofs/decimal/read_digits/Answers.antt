-- `columns::read_digits` meets its contract. The loop's invariant: the digits passed make `value`, and the number from here, with
-- those before it, is the number from the start. Each way out is a law of `numberFrom`.
use Rattle.std.proofs.Common.{◌≤◌, ◌<◌, ◌+◌, ◌-◌, ◌*◌, ◌^◌, ◌≡◌, sym, ◌∙◌, arith, drop, get_or, ltb-true, ltb-false}
use Rattle.columns.specs.Decimal.{number_from, digits_of}
use Rattle.columns.specs.Digits.{digits-none, digits-start, number-end, number-low, number-high, number_more, number-over}
use Rattle.columns.proofs.decimal.read_digits.Goals as goal
use Rattle.columns.proofs.decimal.read_digits.Goals.{Else-b-gt-NINE, Else-not-may_follow}

pub returns-then-s-eq0 : goal.returns-then-s-eq0
returns-then-s-eq0 c = digits-none _ c.if-s-eq0.true

pub loop-byte-init : goal.loop-byte-init
loop-byte-init c = (omega arith, digits-start _ c.if-s-eq0.false)

pub returns-then-b-lt-ZERO : goal.returns-then-b-lt-ZERO
returns-then-b-lt-ZERO c =
    sym (number-low _ c.loop-byte.value c.loop-byte.byte-index c.loop-byte-test.true (omega arith)) ∙ c.loop-byte.invariant.1

pub returns-then-b-gt-NINE : goal.returns-then-b-gt-NINE
returns-then-b-gt-NINE c =
    sym (number-high _ c.loop-byte.value c.loop-byte.byte-index c.loop-byte-test.true (omega arith)) ∙ c.loop-byte.invariant.1

-- with the digit read, the number from the next place on is the number
turn : (c : Else-b-gt-NINE)
    → (let s = c.args.s.now in
    number_from (c.loop-byte.value * 10 + (get_or s c.loop-byte.byte-index 0 - 48)) (drop (c.loop-byte.byte-index + 1) s) ≡ digits_of s)
turn c =
    sym (number_more _ c.loop-byte.value c.loop-byte.byte-index c.loop-byte-test.true (omega arith) (omega arith)) ∙ c.loop-byte.invariant.1

pub returns-then-not-may_follow : goal.returns-then-not-may_follow
returns-then-not-may_follow c =
    let over : 2 ^ 64 ≤ c.loop-byte.value * 10 + (c.from-b.result - 48) = ltb-false _ _ (sym c.may_follow.ensures ∙ c.if-not-may_follow.true) in
    sym (number-over _ _ (omega (arith, over, c.from-b.ensures))) ∙ turn (goal.at.returns-then-not-may_follow c).Else-b-gt-NINE

-- the digit that follows keeps the number small
small : (c : Else-not-may_follow)
    → c.loop-byte.value * 10 + (c.from-b.result - 48) < 2 ^ 64
small c = ltb-true _ _ (sym c.may_follow.ensures ∙ c.if-not-may_follow.false)

pub loop-byte-preserved : goal.loop-byte-preserved
loop-byte-preserved c = (omega (arith, small (goal.at.loop-byte-preserved c).Else-not-may_follow), rw c.from-b.ensures (turn (goal.at.loop-byte-preserved c).Else-b-gt-NINE))

pub returns : goal.returns
returns c =
    sym (number-end _ c.loop-byte.value c.loop-byte.byte-index c.loop-byte-test.false c.loop-byte.invariant.0) ∙ c.loop-byte.invariant.1
