-- `definition::are_high` meets its contract: at each place `low` says whether one of the bytes so far is low.
use Rattle.std.proofs.Common.{◌≡◌}
use Rattle.definition.specs.Low.{any_low}
use Rattle.definition.proofs.are_high.Given as goal

abbrev pub invariant-loop-b : goal.invariant-loop-b
invariant-loop-b g l = l.low ≡ any_low l.b-index l.b-items
