-- `primer::count_sequences` meets its contract: before each turn the product is how many sequences the letters from `k` on stand for.
use Rattle.std.proofs.Common.{◌≡◌, length, drop}
use Rattle.primer.specs.Sequences.{stands_for}
use Rattle.primer.proofs.count_sequences.Given as goal

abbrev pub invariant-loop-k : goal.invariant-loop-k
invariant-loop-k l = l.product ≡ length (stands_for (drop l.k l.primer))
