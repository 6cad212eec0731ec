-- `table::numbers::from_bytes` meets its contract: the number is that of the bytes from `i` on.
use Rattle.std.proofs.Common.{◌<◌, ◌+◌, ◌-◌, ◌^◌, ◌≡◌, sym, arith, drop, length-drop, get_or-drop}
use Rattle.table.specs.NumberLaws.{from-none, from_more, from-fits}
use Rattle.table.proofs.numbers.from_bytes.Goals as goal
use Rattle.table.proofs.numbers.from_bytes.Goals.{In-loop-i}

pub loop-i-init : goal.loop-i-init
loop-i-init c = (omega arith, from-none c.args.bytes.now)

-- so far there are at most seven bytes
small : (c : In-loop-i) → c.loop-i.n < 256 ^ 7
small c =
    let s = c.args.bytes.now in
    rw c.loop-i.invariant.1 (from-fits 7 (drop c.loop-i.i s) (rw length-drop (omega arith)) (λ j. rw get_or-drop (omega (arith, c.shared_slice_known-1.given (c.loop-i.i + j)))))

pub overflow_mul-n : goal.overflow_mul-n
overflow_mul-n c = omega (arith, small (goal.at.overflow_mul-n c).In-loop-i)

pub overflow_add-n : goal.overflow_add-n
overflow_add-n c = omega (arith, small (goal.at.overflow_add-n c).In-loop-i, c.from.ensures, c.shared_slice_known-in-loop-i-1.given (c.loop-i.i - 1))

pub loop-i-preserved : goal.loop-i-preserved
loop-i-preserved c =
    let s = c.args.bytes.now in
    let e : c.loop-i.i - 1 + 1 ≡ c.loop-i.i = omega arith in
    (omega arith, rw (c.loop-i.invariant.1, c.from.ensures) (rw e at (sym (from_more s (c.loop-i.i - 1) (omega arith)))))

pub returns : goal.returns
returns c =
    let z : c.loop-i.i ≡ 0 = omega arith in
    rw z at c.loop-i.invariant.1
