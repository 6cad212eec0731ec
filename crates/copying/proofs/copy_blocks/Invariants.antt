-- `copying::copy_blocks` meets its contract: before each block the bytes up to it are copied, and the last one brings the rest.
use Rattle.std.proofs.Common.{◌≡◌, ◌≤◌, length, take}
use Rattle.copying.proofs.copy_blocks.Given as goal

abbrev pub invariant-loop-k : goal.invariant-loop-k
invariant-loop-k l = (l.k ≤ length l.from) × (length l.out ≡ length l.from) × (take l.k l.out ≡ take l.k l.from)
