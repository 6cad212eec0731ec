-- `scoring::lanes::lanes_in` meets its contract: each turn puts a block before the others, lane by lane.
use Rattle.std.proofs.Common.{◌+◌, ◌-◌, ◌*◌, ◌≡◌, length}
use Rattle.scoring.specs.Counting.{agrees}
use Rattle.scoring.specs.Open.{hit, is_open}
use Rattle.scoring.specs.Lanes.{IsLanes, Stepping}
use Rattle.scoring.proofs.lanes.lanes_in.Given as goal

abbrev pub invariant-loop-l : goal.invariant-loop-l
invariant-loop-l l =
    Stepping (agrees hit l.places.key.now l.places.typed.now) 1 l.q (l.blocks - (l.b + 1)) l.l l.right × Stepping (agrees is_open l.places.key.now l.places.typed.now) 2 l.q (l.blocks - (l.b + 1)) l.l l.opens

abbrev pub invariant-loop-b : goal.invariant-loop-b
invariant-loop-b l =
    (length l.right ≡ 32) × (length l.opens ≡ 32)
    × IsLanes (agrees hit l.places.key.now l.places.typed.now) 1 (l.at + 32 * l.b) (l.blocks - l.b) l.right
    × IsLanes (agrees is_open l.places.key.now l.places.typed.now) 2 (l.at + 32 * l.b) (l.blocks - l.b) l.opens
