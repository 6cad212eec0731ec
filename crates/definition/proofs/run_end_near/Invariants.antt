-- `definition::run_end_near` meets its contract: the run from `i` ends where the run from `at` does.
use Rattle.std.proofs.Common.{◌+◌, ◌≡◌, drop}
use Rattle.definition.specs.Definition.{spaced, run}
use Rattle.definition.proofs.run_end_near.Given as goal

abbrev pub invariant-loop-i : goal.invariant-loop-i
invariant-loop-i l = l.i + run (spaced l.space) (drop l.i l.l) ≡ l.at + run (spaced l.space) (drop l.at l.l)
