-- `sheet::bytes::region_at` meets its contract: its five numbers.
use Rattle.std.proofs.Common.{◌<◌, ◌*◌, ◌+◌, ◌^◌, arith}
use Rattle.table.specs.NumberLaws.{length-numbers}
use Rattle.sheet.proofs.bytes.region_at.Goals as goal
use Rattle.sheet.proofs.bytes.region_at.Goals.{After-shared_slice_known-1}

inside : (c : After-shared_slice_known-1) → c.args.i * 5 + 5 < 2 ^ 64
inside c = omega (arith, c.requires, length-numbers c.args.regions.now)

pub overflow_mul-b : goal.overflow_mul-b
overflow_mul-b c = omega (arith, inside (goal.at.overflow_mul-b c).After-shared_slice_known-1)

pub overflow_add-b : goal.overflow_add-b
overflow_add-b c = omega (arith, inside (goal.at.overflow_add-b c).After-shared_slice_known-1)

pub overflow_add-b-2 : goal.overflow_add-b-2
overflow_add-b-2 c = omega (arith, inside (goal.at.overflow_add-b-2 c).After-shared_slice_known-1)

pub overflow_add-b-3 : goal.overflow_add-b-3
overflow_add-b-3 c = omega (arith, inside (goal.at.overflow_add-b-3 c).After-shared_slice_known-1)

pub overflow_add-b-4 : goal.overflow_add-b-4
overflow_add-b-4 c = omega (arith, inside (goal.at.overflow_add-b-4 c).After-shared_slice_known-1)

pub returns : goal.returns
returns c =
    rw (
      c.number-5.ensures,
      c.bound-end.ensures,
      c.number-4.ensures,
      c.number-3.ensures,
      c.bound-start.ensures,
      c.number-2.ensures,
      c.number.ensures,
    )
