-- The rows that a FASTQ file or its index gives, and a table filled with them: rows of one kind, of which the crate `table` has the definitions.
use Rattle.std.specs.Prelude.{ℕ, List, Option, Result, ⊤}
use Rattle.refusal.specs.declared.Refusal.{Refusal}
use Rattle.fastq.specs.declared.QualityRow.{QualityRow}
use Rattle.table.specs.Kinds
use Rattle.table.specs.declared.Filled.{Filled}
use Rattle.fastq_table.specs.Rows.{quality_rows}
pub use Rattle.table.specs.Kinds.{nothing, with_first}
unfoldable pub use Rattle.table.specs.Kinds.{held_in}

-- rows, and why there are no more
abbrev pub Found : Type 0
Found = Kinds.FoundOf QualityRow

-- what a call that fills a table of numbers from its first row tells, and what it leaves there
abbrev pub FilledAs : Found → List ℕ → List ℕ → Filled → Type 0
FilledAs = Kinds.FilledAs quality_rows

-- what the code has as the next of the rows
abbrev pub turn_of : Result (Option (QualityRow × ℕ)) Refusal → Kinds.Turn QualityRow
turn_of = Kinds.turn_of

-- the next of the rows that there are from a place on, which is before an end
abbrev pub NextOf : Found → (ℕ → Found) → ℕ → ℕ → Result (Option (QualityRow × ℕ)) Refusal → Type 0
NextOf here behind at end x = Kinds.NextOf quality_rows here behind at end (turn_of x)

-- ---- a table that is lent as bytes

-- what storing row r tells, and the table afterwards
abbrev pub StoredIn : List ℕ → ℕ → QualityRow → Result ⊤ Refusal → List ℕ → Type 0
StoredIn = Kinds.StoredIn quality_rows

-- the same of a turn of filling
abbrev pub KeptIn : List ℕ → ℕ → Result (Option (QualityRow × ℕ)) Refusal → Result (Option ℕ) Refusal → List ℕ → Type 0
KeptIn before n x told after = Kinds.KeptIn quality_rows before n (turn_of x) told after

-- what a call that fills a table from its first row tells, and what it leaves there
abbrev pub FilledBytes : Found → List ℕ → List ℕ → Filled → Type 0
FilledBytes = Kinds.FilledBytes quality_rows
