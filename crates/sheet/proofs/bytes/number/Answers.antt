-- `sheet::bytes::number` meets its contract: its eight bytes, one by one.
use Rattle.std.proofs.Common.{◌≤◌, ◌*◌, ◌+◌, length, arith}
use Rattle.sheet.specs.Bytes.{number-ends, number_is}
use Rattle.sheet.proofs.bytes.number.Goals as goal
use Rattle.sheet.proofs.bytes.number.Goals.{After-shared_slice_known-1}

ends : (c : After-shared_slice_known-1) → c.args.k * 8 + 8 ≤ length c.args.bytes.now
ends c = number-ends _ _ c.requires

pub overflow_mul-at : goal.overflow_mul-at
overflow_mul-at c = omega (arith, ends (goal.at.overflow_mul-at c).After-shared_slice_known-1)

pub bounds-bytes-at : goal.bounds-bytes-at
bounds-bytes-at c = omega (arith, ends (goal.at.bounds-bytes-at c).After-shared_slice_known-1)

pub overflow_add-at : goal.overflow_add-at
overflow_add-at c = omega (arith, ends (goal.at.overflow_add-at c).After-shared_slice_known-1)

pub bounds-bytes-at-2 : goal.bounds-bytes-at-2
bounds-bytes-at-2 c = omega (arith, ends (goal.at.bounds-bytes-at-2 c).After-shared_slice_known-1)

pub overflow_add-at-2 : goal.overflow_add-at-2
overflow_add-at-2 c = omega (arith, ends (goal.at.overflow_add-at-2 c).After-shared_slice_known-1)

pub bounds-bytes-at-3 : goal.bounds-bytes-at-3
bounds-bytes-at-3 c = omega (arith, ends (goal.at.bounds-bytes-at-3 c).After-shared_slice_known-1)

pub overflow_add-at-3 : goal.overflow_add-at-3
overflow_add-at-3 c = omega (arith, ends (goal.at.overflow_add-at-3 c).After-shared_slice_known-1)

pub bounds-bytes-at-4 : goal.bounds-bytes-at-4
bounds-bytes-at-4 c = omega (arith, ends (goal.at.bounds-bytes-at-4 c).After-shared_slice_known-1)

pub overflow_add-at-4 : goal.overflow_add-at-4
overflow_add-at-4 c = omega (arith, ends (goal.at.overflow_add-at-4 c).After-shared_slice_known-1)

pub bounds-bytes-at-5 : goal.bounds-bytes-at-5
bounds-bytes-at-5 c = omega (arith, ends (goal.at.bounds-bytes-at-5 c).After-shared_slice_known-1)

pub overflow_add-at-5 : goal.overflow_add-at-5
overflow_add-at-5 c = omega (arith, ends (goal.at.overflow_add-at-5 c).After-shared_slice_known-1)

pub bounds-bytes-at-6 : goal.bounds-bytes-at-6
bounds-bytes-at-6 c = omega (arith, ends (goal.at.bounds-bytes-at-6 c).After-shared_slice_known-1)

pub overflow_add-at-6 : goal.overflow_add-at-6
overflow_add-at-6 c = omega (arith, ends (goal.at.overflow_add-at-6 c).After-shared_slice_known-1)

pub bounds-bytes-at-7 : goal.bounds-bytes-at-7
bounds-bytes-at-7 c = omega (arith, ends (goal.at.bounds-bytes-at-7 c).After-shared_slice_known-1)

pub overflow_add-at-7 : goal.overflow_add-at-7
overflow_add-at-7 c = omega (arith, ends (goal.at.overflow_add-at-7 c).After-shared_slice_known-1)

pub bounds-bytes-at-8 : goal.bounds-bytes-at-8
bounds-bytes-at-8 c = omega (arith, ends (goal.at.bounds-bytes-at-8 c).After-shared_slice_known-1)

pub returns : goal.returns
returns c = number_is _ _ c.requires _ _ c.quad-low.ensures c.quad-high.ensures
