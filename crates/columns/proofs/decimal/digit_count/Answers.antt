-- `columns::decimal::digit_count` meets its contract. The loop's invariant: the digits counted, all but one of w, and those of what is left
-- are all digits.
use Rattle.std.proofs.Common.{ℕ, Bool, true, false, ◌+◌, ◌≤◌, ◌≡◌, refl, cond, ltb, leb, arith, length, lt-ltb, le-ltb, leb-true, leb-false}
use mir.Val.{bool_byte}
use Rattle.columns.specs.Decimal.{decimal_of}
use Rattle.columns.specs.Digits.{decimal-short, four-more, few-digits}
use Rattle.columns.proofs.decimal.digit_count.Goals as goal
use Rattle.columns.proofs.decimal.digit_count.Goals.{After-loop-m, Start}

-- all digits are 20 at most
short : (c : Start) → length (decimal_of c.args.n) ≤ 20
short c = decimal-short c.args.n (omega arith)

pub overflow_add-w : goal.overflow_add-w
overflow_add-w c = omega (arith, short (goal.at.overflow_add-w c).Start, c.loop-m.invariant)

pub loop-m-preserved : goal.loop-m-preserved
loop-m-preserved c = omega (arith, four-more c.loop-m.m (omega arith), c.loop-m.invariant)

-- a test that is counted
counted : (k m : ℕ) → bool_byte (leb k m) ≡ cond (ltb m k) 0 1
counted k m = go (leb k m) refl
  where
    go : (t : Bool) → leb k m ≡ t → bool_byte t ≡ cond (ltb m k) 0 1
    go true e = rw (le-ltb m k (leb-true k m e))
    go false e = rw (lt-ltb m k (leb-false k m e))

-- what is left has four digits at most
few : (c : After-loop-m)
    → (c.loop-m.w + (bool_byte (leb 10 c.loop-m.m) + bool_byte (leb 100 c.loop-m.m) + bool_byte (leb 1000 c.loop-m.m)) ≡ length (decimal_of c.args.n))
few c = omega (arith, few-digits c.loop-m.m (omega arith), counted 10 c.loop-m.m, counted 100 c.loop-m.m, counted 1000 c.loop-m.m, c.loop-m.invariant)

pub overflow_add-result : goal.overflow_add-result
overflow_add-result c = omega (arith, few (goal.at.overflow_add-result c).After-loop-m, short (goal.at.overflow_add-result c).Start, c.from.ensures)

pub overflow_add-result-2 : goal.overflow_add-result-2
overflow_add-result-2 c = omega (arith, few (goal.at.overflow_add-result-2 c).After-loop-m, short (goal.at.overflow_add-result-2 c).Start, c.from-2.ensures, c.from.ensures)

pub overflow_add-result-3 : goal.overflow_add-result-3
overflow_add-result-3 c = omega (arith, few (goal.at.overflow_add-result-3 c).After-loop-m, short (goal.at.overflow_add-result-3 c).Start, c.from-3.ensures, c.from-2.ensures, c.from.ensures)

pub returns : goal.returns
returns c = omega (arith, few (goal.at.returns c).After-loop-m, c.from-3.ensures, c.from-2.ensures, c.from.ensures)
