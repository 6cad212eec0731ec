-- `columns::fields::first_near` meets its contract. The loop's invariant: the first tab or LF from here is the first from the start.
use Rattle.std.proofs.Common.{◌+◌, ◌≡◌, drop}
use Rattle.columns.specs.Bytes.{first_where}
use Rattle.columns.specs.Fields.{splits}
use Rattle.columns.proofs.fields.first_near.Given as goal

abbrev pub invariant-loop-i : goal.invariant-loop-i
invariant-loop-i l = l.i + first_where splits (drop l.i l.l) ≡ l.from + first_where splits (drop l.from l.l)
