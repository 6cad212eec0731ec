-- `columns::decimal::put_few` meets its contract: its size tells how many digits a number has, and a law each what is put.
use Rattle.std.proofs.Common.{arith, length-set}
use Rattle.columns.specs.Digits.{one-digit}
use Rattle.columns.specs.Forward.{put-kept, put_1, width-2, put_2, width-3, put_3, width-4, put_4}
use Rattle.columns.proofs.decimal.put_few.Goals as goal

pub bounds-out-at : goal.bounds-out-at
bounds-out-at c = omega (arith, one-digit c.args.n c.if-n-lt10.true)

pub returns-then-n-lt10 : goal.returns-then-n-lt10
returns-then-n-lt10 c = put_1 _ _ _ c.if-n-lt10.true (omega (arith, one-digit c.args.n c.if-n-lt10.true))

pub put_two-requires : goal.put_two-requires
put_two-requires c =
    (c.if-n-lt100.true, omega (arith, width-2 c.args.n c.args.out.now c.args.at c.if-n-lt10.false c.if-n-lt100.true))

pub returns-then-n-lt100 : goal.returns-then-n-lt100
returns-then-n-lt100 c =
    rw c.put_two.ensures (put_2 _ _ _ c.if-n-lt10.false c.if-n-lt100.true)

pub bounds-out-at-then-n-lt1000 : goal.bounds-out-at-then-n-lt1000
bounds-out-at-then-n-lt1000 c =
    omega (arith, width-3 c.args.n c.args.out.now c.args.at c.if-n-lt100.false c.if-n-lt1000.true)

pub put_two-requires-then-n-lt1000 : goal.put_two-requires-then-n-lt1000
put_two-requires-then-n-lt1000 c =
    (omega (arith, c.hundredth-front.ensures), simp length-set (omega (arith, width-3 c.args.n c.args.out.now c.args.at c.if-n-lt100.false c.if-n-lt1000.true)))

pub returns-then-n-lt1000 : goal.returns-then-n-lt1000
returns-then-n-lt1000 c =
    rw (c.put_two-then-n-lt1000.ensures, c.hundredth-front.ensures)
    (put_3 _ _ _ c.if-n-lt100.false c.if-n-lt1000.true (omega (arith, width-3 c.args.n c.args.out.now c.args.at c.if-n-lt100.false c.if-n-lt1000.true)))

pub shape_of-out-then-n-lt1000 : goal.shape_of-out-then-n-lt1000
shape_of-out-then-n-lt1000 c =
    put-kept _ _ _ _ _ (returns-then-n-lt1000 c) (omega (arith, width-3 c.args.n c.args.out.now c.args.at c.if-n-lt100.false c.if-n-lt1000.true))

pub put_four-requires : goal.put_four-requires
put_four-requires c =
    (c.requires.0, omega (arith, width-4 c.args.n c.args.out.now c.args.at c.if-n-lt1000.false c.requires.0))

pub returns : goal.returns
returns c =
    rw c.put_four.ensures (put_4 _ _ _ c.if-n-lt1000.false c.requires.0)
