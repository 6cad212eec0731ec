-- `region::exact::copy_bases` meets its contract: line by line, the output with the bases that are still to be copied is the one
-- that was promised, and the next line begins where the rule says. The code does not keep the first base, so promise and invariant are
-- for every base with which a copy can begin there; there is one.
use Rattle.std.proofs.Common.{ℕ, ◌-◌}
use Rattle.region.specs.Copy.{Starts, Lined}
use Rattle.region.proofs.exact.copy_bases.Given as goal

abbrev pub invariant-loop-run : goal.invariant-loop-run
invariant-loop-run l = (f a : ℕ) → Starts f l.file l.x a l.n l.fn.bases.at l.fn.bases.run → Lined f l.file l.x a l.n l.initial.out l.k l.at l.run l.out

abbrev pub decreases-loop-run : goal.decreases-loop-run
decreases-loop-run l = l.n - l.k
