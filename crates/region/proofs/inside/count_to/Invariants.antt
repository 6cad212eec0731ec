-- `region::inside::count_to` meets its contract: the count lies between the two ends, and these close in on it.
use Rattle.std.proofs.Common.{ℕ, ◌-◌, ◌≤◌, ◌<◌}
use Rattle.record.specs.declared.Record.{Record}
use Rattle.record.specs.declared.Position.{Position}
use Rattle.region.specs.declared.Part.{Part}
use Rattle.region.specs.Exact.{offsets_of}
use Rattle.region.specs.Part.{in_part}
use Rattle.region.proofs.inside.count_to.Given as goal

-- the count
abbrev pub all : Part → Record → Position → ℕ → ℕ
all part x a n = in_part part.from.0 part.to.0 (offsets_of x a.0 n)

abbrev pub invariant-loop-high : goal.invariant-loop-high
invariant-loop-high l = (l.low ≤ all l.part l.x l.a l.n) × (all l.part l.x l.a l.n < l.high) × (l.high ≤ l.n)

abbrev pub decreases-loop-high : goal.decreases-loop-high
decreases-loop-high l = l.high - l.low
