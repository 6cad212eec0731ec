-- `columns::fields::field_length` meets its contract: if no tab cuts, the field is all that is left. The loop's invariant: the first tab from here is
-- the first.
use Rattle.std.proofs.Common.{◌≤◌, ◌+◌, ◌-◌, ◌≡◌, length, drop}
use Rattle.columns.specs.Bytes.{is, first_where}
use Rattle.columns.proofs.fields.field_length.Given as goal

abbrev pub invariant-loop-i : goal.invariant-loop-i
invariant-loop-i l = (l.i ≤ length l.l) × (l.i + first_where (is 9) (drop l.i l.l) ≡ first_where (is 9) l.l)

abbrev pub decreases-loop-i : goal.decreases-loop-i
decreases-loop-i l = length l.l - l.i
