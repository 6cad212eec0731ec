-- `index::find_row` meets its contract: what the rows from r on say stays what all of them say.
use Rattle.std.proofs.Common.{◌-◌, ◌≡◌}
use Rattle.index.specs.Find.{row_from, row_named}
use Rattle.index.proofs.find_row.Given as goal

abbrev pub invariant-loop-r : goal.invariant-loop-r
invariant-loop-r g l = row_from l.names (g.C.Cell.numbers l.table) l.in_use l.name (l.in_use - l.r) l.r ≡ row_named l.names (g.C.Cell.numbers l.table) l.in_use l.name
