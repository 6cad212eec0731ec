-- `feeder::records::take_records` meets its contract: each record that is taken goes on from the one before.
use Rattle.std.proofs.Common.{◌-◌, ◌<◌, length, ◌≡◌}
use Rattle.feeder.specs.Turns.{RecordsDone}
use Rattle.feeder.proofs.records.take_records.Given as goal

abbrev pub invariant-loop-r : goal.invariant-loop-r
invariant-loop-r l = (length l.table ≡ length l.initial.table) × (l.r.at < length l.p) × RecordsDone l.at l.rows l.p l.i l.initial.table l.r l.table

abbrev pub decreases-loop-r : goal.decreases-loop-r
decreases-loop-r l = length l.p - l.r.at
