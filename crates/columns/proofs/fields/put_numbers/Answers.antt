-- `columns::fields::put_numbers` meets its contract. The loop's invariant: the text of the first i numbers is laid over the output from `at`
-- up to `place`.
use Rattle.std.proofs.Common.{◌≤◌, ◌+◌, refl, ◌∙◌, arith, length, get_or, length-set}
use Rattle.columns.specs.Bytes.{overlaid-none}
use Rattle.columns.specs.Decimal.{decimal_of}
use Rattle.columns.specs.Fields.{tabbed}
use Rattle.columns.specs.Forward.{put-kept}
use Rattle.columns.specs.Writing.{next-room, next_place, next-put}
use Rattle.columns.proofs.fields.put_numbers.Goals as goal
use Rattle.columns.proofs.fields.put_numbers.Goals.{In-loop-number}

pub loop-number-init : goal.loop-number-init
unfolding tabbed
loop-number-init c =
    let a = c.args in
    (refl, omega arith, overlaid-none a.out.now a.at)

-- there is room for the tab and the number
room : (c : In-loop-number)
    → (let a = c.args in c.loop-number.place + 1 + length (decimal_of (get_or a.numbers.now c.loop-number.number-index 0)) ≤ length a.out.now)
room c =
    next-room c.args.numbers.now c.args.out.now c.args.at c.loop-number.number-index c.loop-number.place c.loop-number-test.true c.requires c.loop-number.invariant.1

pub bounds-out-place : goal.bounds-out-place
bounds-out-place c = omega (arith, room (goal.at.bounds-out-place c).In-loop-number, c.loop-number.invariant)

pub overflow_add-place : goal.overflow_add-place
overflow_add-place c = omega (arith, room (goal.at.overflow_add-place c).In-loop-number)

pub put_number-place-requires : goal.put_number-place-requires
put_number-place-requires c = simp length-set (omega (arith, room (goal.at.put_number-place-requires c).In-loop-number, c.loop-number.invariant))

pub loop-number-preserved : goal.loop-number-preserved
loop-number-preserved c =
    let e = c.put_number-place.ensures in (
      put-kept _ _ _ _ _ e (simp length-set (omega (arith, room (goal.at.loop-number-preserved c).In-loop-number, e.place, c.loop-number.invariant))) ∙ simp length-set c.loop-number.invariant.0,
      omega (arith, e.place, next_place c.args.numbers.now c.args.out.now c.args.at c.loop-number.number-index c.loop-number.place c.loop-number-test.true c.requires c.loop-number.invariant.1),
      rw (e.holds, c.loop-number.invariant.2)
          (next-put c.args.numbers.now c.args.out.now c.args.at c.loop-number.number-index c.loop-number.place c.loop-number-test.true c.requires c.loop-number.invariant.1),
    )
