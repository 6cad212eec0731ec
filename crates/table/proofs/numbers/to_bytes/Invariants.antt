-- `table::numbers::to_bytes` meets its contract: the bytes written, with those that are left, are the number's.
use Rattle.std.proofs.Common.{◌≤◌, ◌-◌, ◌≡◌, ◌++◌, length, take}
use Rattle.table.specs.Numbers.{to_bytes}
use Rattle.table.proofs.numbers.to_bytes.Given as goal

abbrev pub invariant-loop-i : goal.invariant-loop-i
invariant-loop-i l = (length l.bytes ≡ length l.initial.bytes) × (l.i ≤ length l.initial.bytes) × (take l.i l.bytes ++ to_bytes (length l.initial.bytes - l.i) l.left ≡ to_bytes (length l.initial.bytes) l.number)
