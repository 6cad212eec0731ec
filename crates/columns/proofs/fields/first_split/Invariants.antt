-- `columns::fields::first_split` meets its contract: a block that has neither leaves the first tab or LF where it is, and with the
-- last block there is none.
use Rattle.std.proofs.Common.{◌≤◌, ◌+◌, ◌-◌, ◌≡◌, length, drop}
use Rattle.columns.specs.Bytes.{first_where}
use Rattle.columns.specs.Fields.{splits}
use Rattle.columns.proofs.fields.first_split.Given as goal

abbrev pub invariant-loop-i : goal.invariant-loop-i
invariant-loop-i l = (l.i ≤ length l.l) × (l.i + first_where splits (drop l.i l.l) ≡ l.from + first_where splits (drop l.from l.l))

abbrev pub decreases-loop-i : goal.decreases-loop-i
decreases-loop-i l = length l.l - l.i
