-- Laws of a table that is lent as bytes: those of rows of any kind, and what is said of a record alone.
use Rattle.std.specs.Prelude.{ℕ, ◌<◌, ◌≡◌, List}
use Rattle.table.specs.declared.Filled.{Filled}
use Rattle.table.specs.Numbers.{numbers_in}
use Rattle.table.specs.Rows.{row_count, records}
use Rattle.table.specs.Fill.{Found}
use Rattle.table.specs.KindLaws
pub use Rattle.table.specs.KindLaws.{filled-bytes, filled-nothing}

-- ---- a row

-- a row that a table has is inside its numbers
abbrev pub Inside : List ℕ → ℕ → Type 0
Inside = KindLaws.Inside records

pub row_inside : (t : List ℕ) (r m : ℕ) → m ≡ row_count (numbers_in t) → r < m → Inside t r
row_inside = KindLaws.row_inside records

-- ---- filling, by numbers and rest

-- a table is filled
abbrev pub FilledRows : Found → List ℕ → List ℕ → Filled → Type 0
FilledRows = KindLaws.FilledRows records

-- what a table with all its rows free holds of some records
abbrev pub held_by : List ℕ → Found → Found
held_by = KindLaws.held_by records
