-- `table::numbers::from_bytes` meets its contract: the number is that of the bytes from `i` on.
use Rattle.std.proofs.Common.{◌≤◌, ◌≡◌, length, drop}
use Rattle.table.specs.Numbers.{from_bytes}
use Rattle.table.proofs.numbers.from_bytes.Given as goal

abbrev pub invariant-loop-i : goal.invariant-loop-i
invariant-loop-i l = (l.i ≤ length l.bytes) × (l.n ≡ from_bytes (drop l.i l.bytes))
