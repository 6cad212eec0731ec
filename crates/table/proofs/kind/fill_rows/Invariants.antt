-- `table::kind::fill_rows` meets its contract: the rows in the table, with those that the text from `at` on still gives, are those of the text from `from` on.
use Rattle.std.proofs.Common.{◌-◌, ◌≡◌, length}
use Rattle.table.specs.KindLaws.{Onward}
use Rattle.table.proofs.kind.fill_rows.Given as goal

abbrev pub invariant-loop-behind : goal.invariant-loop-behind
invariant-loop-behind g l = (length l.table ≡ length l.initial.table) × Onward g.K.RowKind.kind (g.K.RowKind.kind.row_count (g.C.Cell.numbers l.initial.table)) (g.C.Cell.numbers l.initial.table) (g.S.Source.rows l.source l.text 0 l.from) l.n (g.S.Source.rows l.source l.text l.n l.at) (g.C.Cell.numbers l.table) × (g.C.Cell.rest l.table ≡ g.C.Cell.rest l.initial.table) × g.S.Source.reached l.source l.text l.from l.n l.at

abbrev pub decreases-loop-behind : goal.decreases-loop-behind
decreases-loop-behind g l = length l.text - l.at
