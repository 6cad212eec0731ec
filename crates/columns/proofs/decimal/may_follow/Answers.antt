-- `columns::decimal::may_follow` meets its contract: a tenth of what is left of the largest number has room for the number, or not.
use Rattle.std.proofs.Common.{◌+◌, ◌-◌, ◌*◌, ◌/◌, ◌^◌, ◌≡◌, refl, sym, Bool, true, false, leb, ltb, lt-ltb, le-ltb, leb-true, leb-false, arith}
use Rattle.columns.proofs.decimal.may_follow.Goals as goal

pub returns-then-value-le-ROOMY : goal.returns-then-value-le-ROOMY
returns-then-value-le-ROOMY c = sym (lt-ltb (c.args.value * 10 + c.args.digit) (2 ^ 64) (omega arith))

pub returns : goal.returns
returns c = go (leb c.args.value ((2 ^ 64 - 1 - c.args.digit) / 10)) refl
  where
    go : (t : Bool) → leb c.args.value ((2 ^ 64 - 1 - c.args.digit) / 10) ≡ t → t ≡ ltb (c.args.value * 10 + c.args.digit) (2 ^ 64)
    go true e = sym (lt-ltb (c.args.value * 10 + c.args.digit) (2 ^ 64) (omega (arith, leb-true c.args.value ((2 ^ 64 - 1 - c.args.digit) / 10) e)))
    go false e = sym (le-ltb (c.args.value * 10 + c.args.digit) (2 ^ 64) (omega (arith, leb-false c.args.value ((2 ^ 64 - 1 - c.args.digit) / 10) e)))
