-- A table filled with records: the laws of rows of any kind.
use Rattle.std.specs.Prelude.{ℕ, List}
use Rattle.table.specs.Rows.{records}
use Rattle.table.specs.Fill.{Found}
use Rattle.table.specs.KindLaws
pub use Rattle.table.specs.KindLaws.{held-nothing, held_none, held_first, held_all, onward-start, onward-count, turn_on, turn-stops, next_row, next-stop, kept-stop, kept_on, kept_full, filled_none}

-- n records are in, and f is still to come: of all rows of a table t₀, in which f₀ is put
abbrev pub Onward : ℕ → List ℕ → Found → ℕ → Found → List ℕ → Type 0
Onward = KindLaws.Onward records
