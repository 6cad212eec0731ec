-- A table that is lent as bytes: a record stored in it, a turn of filling it, and the table filled.
use Rattle.std.specs.Prelude.{ℕ, List, Option, Result, ⊤}
use Rattle.refusal.specs.declared.Refusal.{Refusal}
use Rattle.record.specs.declared.Record.{Record}
use Rattle.table.specs.declared.Filled.{Filled}
use Rattle.table.specs.Rows.{records}
use Rattle.table.specs.Fill.{Found, turn_of}
use Rattle.table.specs.Kinds

-- what storing a record in row r tells, and the table afterwards: that of its numbers, and its rest as it was
abbrev pub StoredIn : List ℕ → ℕ → Record → Result ⊤ Refusal → List ℕ → Type 0
StoredIn = Kinds.StoredIn records

-- the same of a turn of filling
abbrev pub KeptIn : List ℕ → ℕ → Result (Option (Record × ℕ)) Refusal → Result (Option ℕ) Refusal → List ℕ → Type 0
KeptIn before n x told after = Kinds.KeptIn records before n (turn_of x) told after

-- what a call that fills a table from its first row tells, and what it leaves there: the numbers are filled as a table of numbers
-- is, and every byte is a number's, or one of the rest, which is as it was
abbrev pub FilledBytes : Found → List ℕ → List ℕ → Filled → Type 0
FilledBytes = Kinds.FilledBytes records
