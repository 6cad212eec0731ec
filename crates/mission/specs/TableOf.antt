-- Rows about a file's records, and a table of them, in terms of the file alone: row r has record r's count of bases, and the place of each.
use Rattle.std.specs.Prelude.{ℕ, ◌^◌, ◌≤◌, ◌<◌, ◌≡◌, List, length, get_or, Ok}
use Rattle.lines.specs.Lines.{lines, sum_bases, bases_at}
use Rattle.lines.specs.Groups.{groups}
use Rattle.record.specs.declared.Record.{Record}
use Rattle.record.specs.Place.{place_in}
use Rattle.table.specs.Rows.{bad_row, held_at}
use Rattle.table.specs.Fill.{Found}
use Rattle.index_line.specs.Laws.{Lined}
use Rattle.checker.specs.Accepts.{record_at, sequence_at, limit}
use Rattle.mission.specs.Leading.{row_in}

-- how many records a file has
abbrev pub record_count : List ℕ → ℕ
record_count f = length (groups (lines f))

-- how many bases record r of a file has, and where base j + 1 of it lies, by the line rule
abbrev pub base_count : List ℕ → ℕ → ℕ
base_count f r = sum_bases (record_at (groups (lines f)) r).seq

abbrev pub base_place : List ℕ → ℕ → ℕ → ℕ
base_place f r j = get_or (bases_at (sequence_at (groups (lines f)) r) (record_at (groups (lines f)) r).seq) j 0

-- a row is about record r of a file
pub record RowOf (f : List ℕ) (r : ℕ) (x : Record) : Type 0 where
  pub count : x.length ≡ base_count f r
  pub places : (j : ℕ) → j < base_count f r → place_in x j ≡ base_place f r j

-- the numbers of a row fit 64 bits each, and its line bases and line width are not 0
pub record Fits (x : Record) : Type 0 where
  pub name-start : x.name_start < 2 ^ 64
  pub name-length : x.name_length < 2 ^ 64
  pub description-start : x.description_start < 2 ^ 64
  pub description-length : x.description_length < 2 ^ 64
  pub lined : Lined x

-- some rows are about a file's records, one for each
pub record RowsAbout (f : List ℕ) (xs : List Record) : Type 0 where
  pub count : length xs ≡ record_count f
  pub about : (r : ℕ) → r < length xs → RowOf f r (row_in xs r)
  pub fits : (r : ℕ) → r < length xs → Fits (row_in xs r)

-- what a call finds for a table of so many rows are such rows, to the end of the file or of its index
pub record Gives (f : List ℕ) (found : Found) (n : ℕ) : Type 0 where
  pub small : length f ≤ limit
  pub stop : found.stop ≡ Ok tt
  pub rows : RowsAbout f found.rows
  pub room : length found.rows ≤ n

-- row r of a table with n rows in use holds such a row
pub record Holds (f t : List ℕ) (n r : ℕ) : Type 0 where
  pub row : Record
  pub held : held_at t n r ≡ Ok row
  pub about : RowOf f r row

-- a table has n rows in use, one for each record of a file and about it; beyond them there is none
pub record TableOf (f t : List ℕ) (n : ℕ) : Type 0 where
  pub rows : n ≡ record_count f
  pub each : (r : ℕ) → r < n → Holds f t n r
  pub beyond : (r : ℕ) → n ≤ r → held_at t n r ≡ bad_row r
