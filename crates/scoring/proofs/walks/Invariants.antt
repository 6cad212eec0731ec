-- `scoring::walks` meets its contract: each word has the places of eight lanes.
use Rattle.std.proofs.Common.{◌*◌, ◌≤◌, ◌≡◌}
use Rattle.scoring.specs.Counting.{agrees}
use Rattle.scoring.specs.Open.{open_lies}
use Rattle.scoring.specs.Lanes.{weigh, sum_to}
use Rattle.scoring.proofs.walks.Given as goal

abbrev pub invariant-loop-i : goal.invariant-loop-i
invariant-loop-i l = (l.right ≤ 64 * l.i) × (l.right ≡ sum_to (weigh (agrees open_lies l.places.key.now l.places.typed.now) 1 l.at l.blocks) (8 * l.i))
