-- What indexing a whole file gives by the ported rule (docs/RULES.md, R20, R23): a row for each record, up to the first refusal.
use Rattle.std.specs.Prelude.{ℕ, List}
use Rattle.lines.specs.Groups.{Group}
use Rattle.table.specs.Fill.{Found}
use Rattle.indexer.specs.Rule.{groups_by, file_by, call_by}
use Rattle.indexer.specs.Index.{ported}

-- the rows of some groups; the first begins at an offset
abbrev pub file_of : List Group → ℕ → Found
file_of = groups_by ported

-- the rows of a file from an offset on
abbrev pub file_at : List ℕ → ℕ → Found
file_at = file_by ported

-- the call, with a table of so many rows: the size limit first
abbrev pub file_in : List ℕ → ℕ → Found
file_in = call_by ported
