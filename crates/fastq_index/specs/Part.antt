-- A part of a FASTQ file, for several cores (docs/RULES.md, R91): the records from an offset on, up to the first that begins at another offset or
-- behind it. Where a record begins is known only from the record before. So a part tells where it stopped, and what is behind it
-- goes on from there.
use Rattle.std.specs.Prelude.{ℕ, zero, suc, ◌-◌, ◌≡◌, List, cond, length, ltb, Option, Some, None, Result, Ok, Err}
use Rattle.refusal.specs.declared.Refusal.{Refusal}
use Rattle.fastq.specs.declared.QualityRow.{QualityRow}
use Rattle.refusal.specs.Numbers.{over_limit}
use Rattle.refusal.specs.declared.Refusal.TheVariants.{TooLong}
use Rattle.fastq.specs.Fastq.{record_at}
use Rattle.fastq.specs.declared.Step.{Step}
use Rattle.fastq_table.specs.Fill.{Found, nothing, held_in, FilledBytes}
use Rattle.fastq_index.specs.File.{onwards}
use Rattle.fastq_index.specs.declared.PartFilled.{PartFilled}
use Rattle.table.specs.Kinds.{no_more}

-- the record at an offset, if that is before the part's end
unfoldable pub record_before : List ℕ → ℕ → ℕ → Step
record_before s to at = cond (ltb at to) (record_at s at) (record { answer = Ok None; next = at })

-- the rows of at most k records
unfoldable pub rows_up_to : ℕ → List ℕ → ℕ → ℕ → Found
rows_up_to zero s to at = nothing (Ok tt)
rows_up_to (suc k) s to at = onwards (record_before s to at).answer (rows_up_to k s to (record_before s to at).next)

-- the rows of the records from an offset on that begin before another: a file has no more records than bytes
unfoldable pub rows_before : List ℕ → ℕ → ℕ → Found
rows_before s to at = rows_up_to (suc (length s - at)) s to at

-- the offset behind so many records
unfoldable pub behind : List ℕ → ℕ → ℕ → ℕ
behind s zero at = at
behind s (suc n) at = behind s n (record_at s at).next

-- where a part stops: behind its rows, at the first record that has none
abbrev pub stop_of : List ℕ → ℕ → ℕ → ℕ
stop_of s to at = behind s (length (rows_before s to at).rows) at

-- the call, with a table of so many rows: the size limit of the whole file first
unfoldable pub part_in : List ℕ → ℕ → ℕ → ℕ → Found
part_in s from to n = cond (over_limit (length s)) (nothing (Err TooLong)) (held_in n n (rows_before s to from))

-- ---- what the code tells

-- the next row, as a table is filled with it
abbrev pub next_for : Result (Option QualityRow) Refusal → ℕ → Result (Option (QualityRow × ℕ)) Refusal
next_for (Ok (Some x)) b = Ok (Some (x, b))
next_for (Ok None) b = no_more (Ok tt)
next_for (Err y) b = no_more (Err y)

unfoldable pub next_before : List ℕ → ℕ → ℕ → Result (Option (QualityRow × ℕ)) Refusal
next_before s to at = next_for (record_before s to at).answer (record_before s to at).next

-- what a call that fills a table with some rows from an offset on tells, and what it leaves there
pub record PartBytes (s : List ℕ) (from : ℕ) (f : Found) (before after : List ℕ) (r : PartFilled) : Type 0 where
  pub filled : FilledBytes f before after r.filled
  pub next : r.next ≡ behind s (length f.rows) from
