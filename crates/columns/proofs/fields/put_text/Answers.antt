-- `columns::fields::put_text` meets its contract: each piece is laid over the output behind the one before it.
use Rattle.std.proofs.Common.{◌+◌, ◌≤◌, arith, length, length-set}
use Rattle.columns.specs.Fields.{numbers_text}
use Rattle.columns.specs.Writing.{text-length, put-line}
use Rattle.columns.proofs.fields.put_text.Goals as goal
use Rattle.columns.proofs.fields.put_text.Goals.{Start}

-- there is room for the name, the numbers and the LF
room : (c : Start) → length c.args.name.now + length (numbers_text c.args.numbers.now) + 1 ≤ length c.args.out.now
room c = omega (arith, c.requires, text-length c.args.name.now c.args.numbers.now)

pub put_front-requires : goal.put_front-requires
put_front-requires c = omega (arith, room (goal.at.put_front-requires c).Start)

pub put_numbers-end-requires : goal.put_numbers-end-requires
put_numbers-end-requires c = omega (arith, room (goal.at.put_numbers-end-requires c).Start)

pub bounds-out-end : goal.bounds-out-end
bounds-out-end c =
    omega (arith, room (goal.at.bounds-out-end c).Start, c.put_numbers-end.ensures.0)

pub overflow_add-result : goal.overflow_add-result
overflow_add-result c =
    omega (arith, room (goal.at.overflow_add-result c).Start, c.put_numbers-end.ensures.0)

pub shape_of-out : goal.shape_of-out
shape_of-out c = simp length-set (omega arith)

pub returns : goal.returns
returns c = (
  omega (arith, c.put_numbers-end.ensures.0, text-length c.args.name.now c.args.numbers.now),
  rw (c.put_numbers-end.ensures.1, c.put_numbers-end.ensures.0, c.put_front.ensures) (put-line c.args.name.now c.args.numbers.now c.args.out.now c.requires),
)
