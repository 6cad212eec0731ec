-- The records that a file or an index gives, and a table filled with them: rows of one kind, of which Kinds.antt has the definitions.
use Rattle.std.specs.Prelude.{ℕ, List, Option, Result}
use Rattle.refusal.specs.declared.Refusal.{Refusal}
use Rattle.record.specs.declared.Record.{Record}
use Rattle.table.specs.declared.Filled.{Filled}
use Rattle.table.specs.Rows.{records}
use Rattle.table.specs.Kinds
unfoldable pub use Rattle.table.specs.Kinds.{nothing, with_first, held_in}

-- records, and why there are no more
abbrev pub Found : Type 0
Found = Kinds.FoundOf Record

-- what a call that fills a table from its first row tells, and what it leaves there
abbrev pub FilledAs : Found → List ℕ → List ℕ → Filled → Type 0
FilledAs = Kinds.FilledAs records

-- what the code has as the next of the records
abbrev pub turn_of : Result (Option (Record × ℕ)) Refusal → Kinds.Turn Record
turn_of = Kinds.turn_of

-- the next of the records that there are from a place on, which is before an end
abbrev pub NextOf : Found → (ℕ → Found) → ℕ → ℕ → Result (Option (Record × ℕ)) Refusal → Type 0
NextOf here behind at end x = Kinds.NextOf records here behind at end (turn_of x)

-- what a turn that puts the next record in row n tells, and the table afterwards
abbrev pub KeptAs : List ℕ → ℕ → Result (Option (Record × ℕ)) Refusal → Result (Option ℕ) Refusal → List ℕ → Type 0
KeptAs before n x told after = Kinds.KeptAs records before n (turn_of x) told after
