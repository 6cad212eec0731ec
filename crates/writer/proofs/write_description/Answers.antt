-- `writer::write_description` meets its contract: the space, and the description behind it.
use Rattle.std.proofs.Common.{[], ◌+◌, ◌≤◌, arith, length, length-set}
use Rattle.writer.specs.Laws.{description-none, description-size, description-put}
use Rattle.writer.proofs.write_description.Goals as goal
use Rattle.writer.proofs.write_description.Goals.{In-Some}

-- there is room for the space and the description
room : (c : In-Some) → c.args.at + 1 + length c.in-Some.told.now ≤ length c.args.out.now
room c = omega (arith, rw (c.in-Some.is, description-size c.in-Some.told.now) at c.requires)

pub returns-in_default : goal.returns-in_default
returns-in_default c = rw c.in_default.is (description-none _ _ [])

pub bounds-out-at : goal.bounds-out-at
bounds-out-at c = omega (arith, room (goal.at.bounds-out-at c).In-Some)

pub put_bytes-requires : goal.put_bytes-requires
put_bytes-requires c = simp length-set (omega (arith, room (goal.at.put_bytes-requires c).In-Some))

pub returns : goal.returns
returns c = rw c.in-Some.is (description-put c.args.out.now c.args.at c.in-Some.told.now _ (rw c.in-Some.is at c.requires) c.put_bytes.ensures)
