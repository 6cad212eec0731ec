-- What a host gets of FASTQ: rows of seven numbers, index lines of six columns, and reads of bases and of qualities.
use Rattle.std.specs.Prelude.{ℕ, ◌≡◌, List, cond, length, eqb, Option, Result, Ok, Err}
use Rattle.refusal.specs.declared.Refusal.{Refusal}
use Rattle.record.specs.declared.Position.{Position}
use Rattle.fastq_checker.specs.declared.Stopped.{Stopped}
use Rattle.fastq_line.specs.declared.Entry.{Entry}
use Rattle.refusal.specs.declared.Numbers.{Numbers}
use Rattle.refusal.specs.Numbers.{numbers_of}
use Rattle.output.specs.Outcome.{Outcome, leaves}
use Rattle.table.specs.declared.Filled.{Filled}
use Rattle.table.specs.Numbers.{numbers_in, with_numbers}
use Rattle.table.specs.Rows.{held_of, named_of}
use Rattle.region.specs.Exact.{exact_held}
use Rattle.fastq.specs.declared.QualityRow.{QualityRow}
use Rattle.fastq.specs.declared.Part.{Part}
use Rattle.fastq.specs.declared.Part.TheVariants.{Bases, Qualities}
use Rattle.fastq_table.specs.Rows.{with_rows, used_at, qualities_at}
use Rattle.fastq_table.specs.Fill.{Found, FilledBytes}
use Rattle.fastq_index.specs.Part.{behind, PartBytes}
use Rattle.fastq_index.specs.declared.PartFilled.{PartFilled}
use Rattle.fastq_line.specs.SixColumns.{line_written}
use Rattle.wakeluri.specs.declared.answer.Answer.{Answer}
use Rattle.wakeluri.specs.declared.qualities.FastqAnswer.{FastqAnswer}
use Rattle.wakeluri.specs.Answer.{fine, no_record, flag_of, answer_of, filled_answer}

-- ---- what a host gives

-- the bases of a record are read for 0, its qualities for every other number
unfoldable pub part_given : ℕ → Part
part_given which = cond (eqb which 0) Bases Qualities

-- ---- what a host gets

-- no row
abbrev pub no_row : QualityRow
no_row = record { «record» = no_record; qualities = record { 0 = 0 } }

-- the struct, field by field
abbrev pub fastq_told : Numbers → ℕ → QualityRow → FastqAnswer
fastq_told n plain x = record {
  refusal = n.refusal;
  first = n.first;
  second = n.second;
  plain = plain;
  name_start = x.«record».name_start;
  name_length = x.«record».name_length;
  length = x.«record».length;
  position = x.«record».position.0;
  line_bases = x.«record».line_bases;
  line_width = x.«record».line_width;
  quality_position = x.qualities.0;
}

-- an index line's row, and whether the line is plain
unfoldable pub fastq_answer : Result Entry Refusal → FastqAnswer
fastq_answer (Ok e) = fastq_told fine (flag_of e.plain) e.row
fastq_answer (Err f) = fastq_told (numbers_of f) 0 no_row

-- a table filled with rows of seven numbers, from its first
unfoldable pub rows_told : Found → List ℕ → Outcome Answer
rows_told f t = leaves (filled_answer (length f.rows) f.stop) (with_numbers t (with_rows (numbers_in t) 0 f.rows))

pub rows-told : (a : Answer) (before after : List ℕ) (f : Found) (r : Filled) → FilledBytes f before after r → a ≡ filled_answer r.rows r.stop → leaves a after ≡ rows_told f before
unfolding rows_told
rows-told a before after f r t q = rw (q, t.filled.rows, t.filled.stop, ← t.filled.table, ← t.bytes)

-- the same, and where a part stopped
abbrev pub stopped_at : Answer → ℕ → Answer
stopped_at a next = record { refusal = a.refusal; first = a.first; second = a.second; count = a.count; next = next }

-- a table filled with rows of a file from an offset on, and the offset behind the last of them
unfoldable pub part_told : List ℕ → ℕ → Found → List ℕ → Outcome Answer
part_told s from f t =
    leaves (stopped_at (filled_answer (length f.rows) f.stop) (behind s (length f.rows) from)) (with_numbers t (with_rows (numbers_in t) 0 f.rows))

pub part-told : (a b : Answer) (s : List ℕ) (from : ℕ) (before after : List ℕ) (f : Found) (r : PartFilled) → PartBytes s from f before after r
    → b ≡ filled_answer r.filled.rows r.filled.stop → a ≡ stopped_at b r.next → leaves a after ≡ part_told s from f before
unfolding part_told
part-told a b s from before after f r t p q =
    rw (q, p, t.next, t.filled.filled.rows, t.filled.filled.stop, ← t.filled.filled.table, ← t.filled.bytes)

-- where a part of a check stopped: the place in the index as the count, and the offset in the file
unfoldable pub passed_answer : Result Stopped Refusal → Answer
passed_answer (Ok s) = answer_of fine s.index s.fastq
passed_answer (Err f) = answer_of (numbers_of f) 0 0

-- ---- by row, of a table with n rows in use

-- the index line of row r
unfoldable pub line_from : List ℕ → List ℕ → ℕ → ℕ → List ℕ → Outcome (Result ℕ Refusal)
line_from names t n r out = line_written names (named_of (length names) (used_at t n r Bases)) (qualities_at t r) out

-- the exact read of the bases, or of the qualities, of row r
unfoldable pub part_read : Part → List ℕ → List ℕ → ℕ → ℕ → Option Position → Option Position → List ℕ → Outcome (Result ℕ Refusal)
part_read p s t n r a e out = exact_held s (held_of (used_at t n r p)) a e out
