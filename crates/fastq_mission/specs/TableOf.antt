-- Rows about the records of a FASTQ file, and a table of them, said of the file alone: row r has the count of bases of record r, and the place of each
-- base and of each quality.
use Rattle.std.specs.Prelude.{ℕ, ◌≤◌, ◌<◌, ◌≡◌, List, length, get_or, Option, Result, Ok}
use Rattle.refusal.specs.declared.Refusal.{Refusal}
use Rattle.record.specs.declared.Position.{Position}
use Rattle.lines.specs.Lines.{sum_bases}
use Rattle.record.specs.Place.{place_in}
use Rattle.record.specs.declared.Record.{Record}
use Rattle.output.specs.Outcome.{Outcome}
use Rattle.table.specs.Rows.{bad_row, held_of}
use Rattle.region.specs.Exact.{exact_held}
use Rattle.fastq.specs.declared.Part.{Part}
use Rattle.fastq_table.specs.Rows.{used_at}
use Rattle.fastq_checker.specs.Check.{part_lines, offsets_of}
use Rattle.fastq_checker.specs.Accepts.{records_of, record_at}

-- how many records a file has
abbrev pub record_count : List ℕ → ℕ
record_count f = length (records_of f)

-- the sequence lines, or the quality lines, of record r of a file
abbrev pub lines_in : List ℕ → ℕ → Part → List (List ℕ)
lines_in f r p = part_lines f (record_at (records_of f) r) p

-- how many bases, or qualities, it has, and where number j + 1 of them lies, by the line rule
abbrev pub base_count : List ℕ → ℕ → Part → ℕ
base_count f r p = sum_bases (lines_in f r p)

abbrev pub base_place : List ℕ → ℕ → Part → ℕ → ℕ
base_place f r p j = get_or (offsets_of f (record_at (records_of f) r) p) j 0

-- a row is about the bases, or the qualities, of record r of a file
pub record RowOf (f : List ℕ) (r : ℕ) (p : Part) (x : Record) : Type 0 where
  pub count : x.length ≡ base_count f r p
  pub places : (j : ℕ) → j < base_count f r p → place_in x j ≡ base_place f r p j

-- the bases, or the qualities, of row r of a table with n rows in use, as the reads take them
abbrev pub held_at : List ℕ → ℕ → ℕ → Part → Result Record Refusal
held_at t n r p = held_of (used_at t n r p)

-- the exact read of them
unfoldable pub exact_part : List ℕ → List ℕ → ℕ → ℕ → Part → Option Position → Option Position → List ℕ → Outcome (Result ℕ Refusal)
exact_part f t n r p a e out = exact_held f (held_at t n r p) a e out

-- row r of such a table holds such a row
pub record Holds (f t : List ℕ) (n r : ℕ) (p : Part) : Type 0 where
  pub row : Record
  pub held : held_at t n r p ≡ Ok row
  pub about : RowOf f r p row

-- a table has n rows in use, one for each record of a file and about it; beyond them there is none
pub record TableOf (f t : List ℕ) (n : ℕ) : Type 0 where
  pub rows : n ≡ record_count f
  pub each : (r : ℕ) → r < n → (p : Part) → Holds f t n r p
  pub beyond : (r : ℕ) → n ≤ r → (p : Part) → held_at t n r p ≡ bad_row r
