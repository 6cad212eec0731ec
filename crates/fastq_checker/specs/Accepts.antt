-- What it means that an index of six columns is accepted for a FASTQ file, over the file's records and the index's lines, and without the checker's walk.
use Rattle.std.specs.Prelude.{ℕ, suc, ◌<◌, ◌≡◌, List, [], length, get_or, Ok}
use Rattle.lines.specs.Lines.{lines}
use Rattle.record.specs.Place.{place_in}
use Rattle.index_line.specs.IndexLine.{name_in}
use Rattle.checker.specs.Accepts.{Fit}
use Rattle.fastq.specs.Parts.{part_of}
use Rattle.fastq.specs.declared.Part.{Part}
use Rattle.fastq.specs.declared.QualityRow.{QualityRow}
use Rattle.fastq_line.specs.SixColumns.{six_line_says, name_of}
use Rattle.fastq_line.specs.declared.Entry.{Entry}
use Rattle.fastq_index.specs.File.{rows_at}
use Rattle.fastq_checker.specs.Check.{offsets_of}

-- the records of a file, as the indexer finds them
abbrev pub records_of : List ℕ → List QualityRow
records_of f = (rows_at f 0).rows

-- record k of some; beyond them, one of zeros
abbrev pub record_at : List QualityRow → ℕ → QualityRow
record_at xs k = get_or xs k (record {
  «record» = record { name_start = 0; name_length = 0; length = 0; position = record { 0 = 0 }; line_bases = 0; line_width = 0; description_start = 0; description_length = 0 };
  qualities = record { 0 = 0 };
})

-- line number n describes record x of a file, down to the place of every base and of every quality
pub record Matches (n : ℕ) (f : List ℕ) (x : QualityRow) (l : List ℕ) : Type 0 where
  pub entry : Entry
  pub reads : six_line_says n l ≡ Ok entry
  pub name : name_in f x.«record» ≡ name_of l
  pub count : x.«record».length ≡ entry.row.«record».length
  pub places : (p : Part) (j : ℕ) → j < length (offsets_of f x p) → get_or (offsets_of f x p) j 0 ≡ place_in (part_of p entry.row) j

-- line k of the index matches record k of the file
abbrev pub MatchesAt : List ℕ → List ℕ → ℕ → Type 0
MatchesAt f i k = Matches (suc k) f (record_at (records_of f) k) (get_or (lines i) k [])

-- an index is accepted for a file: both are within the limit, the indexer takes the file to its end, there are as many lines as records, and every line
-- matches its record
pub record Accepts (f i : List ℕ) : Type 0 where
  pub limits : Fit f i
  pub taken : (rows_at f 0).stop ≡ Ok tt
  pub count : length (lines i) ≡ length (records_of f)
  pub each : (k : ℕ) → k < length (records_of f) → MatchesAt f i k
