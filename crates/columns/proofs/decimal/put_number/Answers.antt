-- `columns::decimal::put_number` meets its contract: a number is what is left without its last four or eight digits, and these digits.
use Rattle.std.proofs.Common.{◌/◌, refl, arith}
use Rattle.columns.specs.Forward.{more-digits, last-four, last-eight, put-part}
use Rattle.columns.proofs.decimal.put_number.Goals as goal

pub put_few-middle-requires : goal.put_few-middle-requires
put_few-middle-requires c = (omega arith, omega (arith, more-digits 4 c.args.n (omega arith)))

pub put_four-requires : goal.put_four-requires
put_four-requires c =
    (omega arith, omega (arith, c.put_few-middle.ensures.place, more-digits 4 c.args.n (omega arith)))

pub overflow_add-result : goal.overflow_add-result
overflow_add-result c =
    omega (arith, c.put_few-middle.ensures.place, more-digits 4 c.args.n (omega arith))

pub returns-then-n-lt100000000 : goal.returns-then-n-lt100000000
returns-then-n-lt100000000 c =
    put-part c.args.n _ _ 4 _ _ _ _ (omega arith) c.put_few-middle.ensures (rw (last-four c.args.n) at c.put_four.ensures) (omega (arith, c.requires)) refl

pub put_few-middle-requires-then-front-lt10000 : goal.put_few-middle-requires-then-front-lt10000
put_few-middle-requires-then-front-lt10000 c = (omega arith, omega (arith, more-digits 8 c.args.n (omega arith)))

pub put_eight-requires : goal.put_eight-requires
put_eight-requires c =
    (omega arith, omega (arith, c.put_few-middle-then-front-lt10000.ensures.place, more-digits 8 c.args.n (omega arith)))

pub overflow_add-result-then-front-lt10000 : goal.overflow_add-result-then-front-lt10000
overflow_add-result-then-front-lt10000 c =
    omega (arith, c.put_few-middle-then-front-lt10000.ensures.place, more-digits 8 c.args.n (omega arith))

pub returns-then-front-lt10000 : goal.returns-then-front-lt10000
returns-then-front-lt10000 c =
    put-part c.args.n _ _ 8 _ _ _ _ (omega arith) c.put_few-middle-then-front-lt10000.ensures (rw (last-eight c.args.n) at c.put_eight.ensures) (omega (arith, c.requires)) refl

pub put_few-middle-requires-then-front-lt100000000 : goal.put_few-middle-requires-then-front-lt100000000
put_few-middle-requires-then-front-lt100000000 c = (omega arith, omega (arith, more-digits 8 c.args.n (omega arith), more-digits 4 (c.args.n / 100000000) (omega arith)))

pub put_four-requires-then-front-lt100000000 : goal.put_four-requires-then-front-lt100000000
put_four-requires-then-front-lt100000000 c =
    (omega arith, omega (arith, c.put_few-middle-then-front-lt100000000.ensures.place, more-digits 8 c.args.n (omega arith), more-digits 4 (c.args.n / 100000000) (omega arith)))

pub overflow_add-middle : goal.overflow_add-middle
overflow_add-middle c =
    omega (arith, c.put_few-middle-then-front-lt100000000.ensures.place, more-digits 8 c.args.n (omega arith), more-digits 4 (c.args.n / 100000000) (omega arith))

pub put_eight-requires-then-front-lt100000000 : goal.put_eight-requires-then-front-lt100000000
put_eight-requires-then-front-lt100000000 c =
    (omega arith, omega (arith, c.put_few-middle-then-front-lt100000000.ensures.place, more-digits 8 c.args.n (omega arith), more-digits 4 (c.args.n / 100000000) (omega arith)))

pub overflow_add-result-then-front-lt100000000 : goal.overflow_add-result-then-front-lt100000000
overflow_add-result-then-front-lt100000000 c =
    omega (arith, c.put_few-middle-then-front-lt100000000.ensures.place, more-digits 8 c.args.n (omega arith), more-digits 4 (c.args.n / 100000000) (omega arith))

pub returns-then-front-lt100000000 : goal.returns-then-front-lt100000000
returns-then-front-lt100000000 c =
    let front = put-part (c.args.n / 100000000) _ _ 4 _ _ _ _ (omega arith) c.put_few-middle-then-front-lt100000000.ensures (rw (last-four (c.args.n / 100000000)) at c.put_four-then-front-lt100000000.ensures) (omega (arith, c.requires)) refl in
    put-part c.args.n _ _ 8 _ _ _ _ (omega arith) front (rw (last-eight c.args.n) at c.put_eight-then-front-lt100000000.ensures) (omega (arith, c.requires)) (omega arith)

pub put_few-middle-requires-2 : goal.put_few-middle-requires-2
put_few-middle-requires-2 c = (omega arith, omega (arith, more-digits 8 c.args.n (omega arith), more-digits 8 (c.args.n / 100000000) (omega arith)))

pub put_eight-requires-2 : goal.put_eight-requires-2
put_eight-requires-2 c =
    (omega arith, omega (arith, c.put_few-middle-2.ensures.place, more-digits 8 c.args.n (omega arith), more-digits 8 (c.args.n / 100000000) (omega arith)))

pub overflow_add-middle-2 : goal.overflow_add-middle-2
overflow_add-middle-2 c =
    omega (arith, c.put_few-middle-2.ensures.place, more-digits 8 c.args.n (omega arith), more-digits 8 (c.args.n / 100000000) (omega arith))

pub put_eight-requires-3 : goal.put_eight-requires-3
put_eight-requires-3 c =
    (omega arith, omega (arith, c.put_few-middle-2.ensures.place, more-digits 8 c.args.n (omega arith), more-digits 8 (c.args.n / 100000000) (omega arith)))

pub overflow_add-result-2 : goal.overflow_add-result-2
overflow_add-result-2 c =
    omega (arith, c.put_few-middle-2.ensures.place, more-digits 8 c.args.n (omega arith), more-digits 8 (c.args.n / 100000000) (omega arith))

pub returns : goal.returns
returns c =
    let front = put-part (c.args.n / 100000000) _ _ 8 _ _ _ _ (omega arith) c.put_few-middle-2.ensures (rw (last-eight (c.args.n / 100000000)) at c.put_eight-2.ensures) (omega (arith, c.requires)) refl in
    put-part c.args.n _ _ 8 _ _ _ _ (omega arith) front (rw (last-eight c.args.n) at c.put_eight-3.ensures) (omega (arith, c.requires)) (omega arith)
