-- `comparing::same_many` meets its contract. The loop's invariant: the bytes passed are the same; so the last block decides.
use Rattle.std.proofs.Common.{◌*◌, ◌≡◌, take}
use Rattle.comparing.proofs.same_many.Given as goal

abbrev pub invariant-loop-k : goal.invariant-loop-k
invariant-loop-k l = take (8 * l.k) l.a ≡ take (8 * l.k) l.b
